-- What the parts of placing make, as lists.
pub use Rattle.v8_encode.specs.Code.{words_of}
