-- A table stands where a region has its bytes.
use Rattle.addr_translate.proofs.Common.{ℕ, List, ◌-◌, take, drop, ap, ◌∙◌, w32, from_be_bytes, word_in, memory_word, table_word, RegionsStand}

pub regions_stand : RegionsStand
unfolding memory_word table_word
regions_stand m t r start bytes readable at = record {
  readable = λ a from to aligned. record { region = r; at = at a from to; readable = readable };
  same = λ a from to aligned.
      ap (word_in a) (at a from to)
      ∙ ap (λ z. from_be_bytes w32 (take 4 (drop (a - z) r.bytes))) start
      ∙ ap (λ (z : List ℕ). from_be_bytes w32 (take 4 (drop (a - t.base) z))) bytes;
}
