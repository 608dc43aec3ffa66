-- The entries of a switch's table: each stands in the text, and leads into it.
use Rattle.switch_runs.proofs.Common.{◌≡◌, ℕ, ◌+◌, ◌*◌, ◌<◌, ◌≤◌, true, Option, Some, None, length, slice_index, refl, arith, nat_le, is_some, and_parts, lt-ltb, leb-true, Words, address_of, word_at, IsText, wrapped, are_targets, is_table, is_table_at, word_at-some, word_at-address, targets_inside}

pub record HasEntry (text : Words) (table x : ℕ) : Type 0 where
  pub entry : ℕ
  pub is : word_at text (table + 4 * x) ≡ Some entry
  pub inside : is_some (word_at text (slice_index text.words entry)) ≡ true
  pub wraps : wrapped (table + 4 * x) ≡ table + 4 * x

pub entry_of : (text : Words) (table count x : ℕ) → IsText text → is_table text table count ≡ true → x < count
    → HasEntry text table x
entry_of text table count x is h l = go (word_at text table) refl h
  where
    go : (o : Option ℕ) → word_at text table ≡ o → is_table_at text count o ≡ true → HasEntry text table x
    go None e h = absurd (cc)
    go (Some from) e h =
        let here = word_at-some text table from e in
        let at : table ≡ address_of text from = here.is in
        let parts = and_parts (nat_le (from + count) (length text.words)) (are_targets text from count) h in
        let fits : from + count ≤ length text.words = leb-true _ _ parts.0 in
        let below = is.below in
        let there : table + 4 * x ≡ address_of text (from + x) = omega arith in
        record {
          entry = from + x;
          is = rw (there, word_at-address text (from + x), lt-ltb (from + x) (length text.words) (omega arith));
          inside = targets_inside text from count x parts.1 l;
          wraps = omega arith;
        }
