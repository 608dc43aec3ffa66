-- A map from texts to vectors, seen as names with bytes.
use Rattle.std.proofs.Common.{◌≡◌, ℕ, List, [], ◌∷◌, Some, String, Vec, Global, string_bytes, refl, ap, Bool, true, false, cond}
use Rattle.std.specs.Ordering.{nat_cmp, is_eq, match_ordering}
use Rattle.std.specs.Option.{option_map}
use Rattle.std.specs.declared.cmp.Ordering.{Ordering}
use Rattle.std.specs.declared.cmp.Ordering.TheVariants.{Less, Equal, Greater}
use Rattle.std.specs.Cmp.Lexicographic.{slice_cmp}
use Rattle.std.specs.BTreeMap.{is_at, insert_entry}
use Rattle.std.specs.Map.{lookup}
use Rattle.std.specs.String.{string_cmp}
use Rattle.eel_base.specs.Outside.{bytes_under, with_bytes}
use Rattle.eel_base.specs.InMemory.{holding_of}

abbrev Entry : Type 0
Entry = String Global × Vec ℕ Global

pub bytes_under-holding : (name : List ℕ) (entries : List Entry) → bytes_under name (holding_of entries) ≡ option_map (λ (v : Vec ℕ Global). v.items) (lookup (is_at (λ (k : String Global). slice_cmp nat_cmp name (string_bytes k))) entries)
bytes_under-holding name [] = refl
bytes_under-holding name (e ∷ es) = found (is_eq (slice_cmp nat_cmp name (string_bytes e.0))) (bytes_under-holding name es)
  where
    found : (b : Bool) → bytes_under name (holding_of es) ≡ option_map (λ (v : Vec ℕ Global). v.items) (lookup (is_at (λ (k : String Global). slice_cmp nat_cmp name (string_bytes k))) es)
        → cond b (Some e.1.items) (bytes_under name (holding_of es)) ≡ option_map (λ (v : Vec ℕ Global). v.items) (cond b (Some e.1) (lookup (is_at (λ (k : String Global). slice_cmp nat_cmp name (string_bytes k))) es))
    found true rest = refl
    found false rest = rest

pub holding-insert : (key : String Global) (value : Vec ℕ Global) (entries : List Entry) → holding_of (insert_entry string_cmp entries key value) ≡ with_bytes (holding_of entries) (string_bytes key) value.items
holding-insert key value [] = refl
holding-insert key value (e ∷ es) = placed (slice_cmp nat_cmp (string_bytes key) (string_bytes e.0)) (holding-insert key value es)
  where
    placed : (o : Ordering) → holding_of (insert_entry string_cmp es key value) ≡ with_bytes (holding_of es) (string_bytes key) value.items
        → holding_of (match_ordering o ((key, value) ∷ e ∷ es) ((e.0, value) ∷ es) (e ∷ insert_entry string_cmp es key value))
        ≡ match_ordering o ((string_bytes key, value.items) ∷ holding_of (e ∷ es)) ((string_bytes e.0, value.items) ∷ holding_of es) ((string_bytes e.0, e.1.items) ∷ with_bytes (holding_of es) (string_bytes key) value.items)
    placed Less rest = refl
    placed Equal rest = refl
    placed Greater rest = ap (λ z. (string_bytes e.0, e.1.items) ∷ z) rest
