use Rattle.v8_text.proofs.Listed.{listings_back}
use Rattle.v8_text.proofs.listings_read_back.Goals as goal

pub returns : goal.returns
returns c = listings_back
