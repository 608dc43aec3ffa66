-- The words before each entry, and before each piece.
use Rattle.layout.proofs.Common.{◌≡◌, ℕ, zero, suc, ◌+◌, ◌*◌, ◌<◌, ◌≤◌, inl, inr, Bool, true, List, [], ◌∷◌, ◌++◌, length, set, slice_get, slice_index, Option, Some, refl, ap, sym, ◌∙◌, add-one, arith, cases_eq, eqb-true, cond_both, append_assoc, get_or-set_other, get_or-set_same, length-set, Range, Entry, OpenRange, Forms, is_start, offset, start_of, width, closes, noted, opens, ranges_from, IsListing, IsOffsets, StartsBelow}
use Rattle.layout.specs.declared.entries.Entry.TheVariants as en
use Rattle.layout.proofs.Widening.{offset_more}

-- the words before each piece that starts at one of the first n entries
abbrev pub AreOffsets : List Entry → Forms → List ℕ → ℕ → Type 0
AreOffsets entries long at n =
    (k : ℕ) → k < length at → start_of entries k < n → slice_index at k ≡ offset entries long (start_of entries k)

pub offset_next : (entries : List Entry) (long : Forms) (n here w : ℕ) → here ≡ offset entries long n
    → w ≡ width (long n) (slice_get entries n) (slice_get entries (n + 1)) → here + w ≡ offset entries long (n + 1)
offset_next entries long n here w e f =
    let g : w ≡ width (long n) (slice_get entries n) (slice_get entries (suc n)) = rw add-one at f in
    rw add-one (omega (arith, offset_more entries long n, e, g))

pub offset_none : (entries : List Entry) (long : Forms) → offset entries long 0 ≡ 0
unfolding offset
offset_none entries long = refl

-- where the forms before it are the same
pub offset_same : (entries : List Entry) (long other : Forms) (n : ℕ) → ((k : ℕ) → k < n → long k ≡ other k)
    → offset entries long n ≡ offset entries other n
offset_same entries long other zero h = offset_none entries long ∙ sym (offset_none entries other)
offset_same entries long other (suc n) h =
    let before = offset_same entries long other n (λ k l. h k (omega (arith, l))) in
    let own = ap (λ (b : Bool). width b (slice_get entries n) (slice_get entries (suc n))) (h n (omega arith)) in
    omega (arith, offset_more entries long n, offset_more entries other n, before, own)

width_small : (long : Bool) (x next : Option Entry) → width long x next ≤ 6
width_small long x next = grind arith

pub offset_small : (entries : List Entry) (long : Forms) (n : ℕ) → offset entries long n ≤ 6 * n
offset_small entries long zero = omega (arith, offset_none entries long)
offset_small entries long (suc n) =
    omega (
      arith,
      offset_small entries long n,
      offset_more entries long n,
      width_small (long n) (slice_get entries n) (slice_get entries (suc n)),
    )

-- ---- where pieces start

start_is : (k : ℕ) (x : Entry) → is_start k x ≡ true → x ≡ en.Start (record { 0 = k })
start_is k (en.Start j) e = ap (λ (n : ℕ). en.Start (record { 0 = n })) (sym (eqb-true k j.0 e))
start_is k (en.Item item) e = absurd (cc)

started : (entries : List Entry) (k : ℕ) → start_of entries k < length entries
    → slice_get entries (start_of entries k) ≡ Some (en.Start (record { 0 = k }))
started [] k l = absurd (omega (arith, l))
started (x ∷ xs) k l = cond_both (is_start k x) 0 (suc (start_of xs k))
    (λ n. n < suc (length xs) → slice_get (x ∷ xs) n ≡ Some (en.Start (record { 0 = k })))
    (λ e _. ap Some (start_is k x e)) (λ e m. started xs k (omega (arith, m))) l

-- the piece that starts
abbrev pub piece_in : Option Entry → ℕ
piece_in (Some (en.Start k)) = k.0
piece_in _ = 0

pub is_entry : (entries : List Entry) (k n : ℕ) → start_of entries k < length entries → start_of entries k ≡ n
    → slice_get entries n ≡ Some (en.Start (record { 0 = k }))
is_entry entries k n l e = cc (e, started entries k l)

-- one entry more, which has `here` words before it
pub offsets_more : (entries : List Entry) (long : Forms) (old : List ℕ) (n here : ℕ) (x : Entry)
    → IsListing entries (length old) → slice_get entries n ≡ Some x → here ≡ offset entries long n
    → AreOffsets entries long old n → AreOffsets entries long (noted old x here) (n + 1)
offsets_more entries long old n here (en.Item item) listing is e h k l m = elim (cases_eq (start_of entries k) n) [
  | inl s ↦ absurd (cc (is, is_entry entries k n (listing.inside k l) s))
  | inr d ↦ h k l (omega (arith, m, d))
]
offsets_more entries long old n here (en.Start j) listing is e h k l m = elim (cases_eq k j.0) [
  | inl s ↦
      let start : start_of entries k ≡ n = (listing.starts n k (is ∙ ap (λ (i : ℕ). Some (en.Start (record { 0 = i }))) (sym s))).1 in
      cc (s, get_or-set_same old j.0 here 0 (omega (arith, s, l, len)), e, start)
  | inr d ↦
      let other : start_of entries k ≡ n → ⊥ = λ s. d (ap piece_in (sym (is_entry entries k n (listing.inside k (omega (arith, l, len))) s) ∙ is)) in
      get_or-set_other old j.0 k here 0 d ∙ h k (omega (arith, l, len)) (omega (arith, m, other))
]
  where
    len : length (set old j.0 here) ≡ length old
    len = length-set old j.0 here

pub noted_len : (at : List ℕ) (x : Entry) (here : ℕ) → length (noted at x here) ≡ length at
noted_len at (en.Start k) here = length-set at k.0 here
noted_len at (en.Item item) here = refl

pub all_offsets : (entries : List Entry) (long : Forms) (at : List ℕ) (n : ℕ) → IsListing entries (length at)
    → n ≡ length entries → AreOffsets entries long at n → IsOffsets entries long at
all_offsets entries long at n listing all h = record {
  targets = listing.targets;
  inside = listing.inside;
  each = λ k l. h k l (omega (arith, all, listing.inside k l));
  small = offset_small entries long;
}

pub start_below : (entries : List Entry) (count n : ℕ) (x : Entry) → IsListing entries count
    → slice_get entries n ≡ Some x → StartsBelow count x
start_below entries count n (en.Start j) listing is = (listing.starts n j.0 is).0
start_below entries count n (en.Item item) listing is = tt

-- ---- ranges

pub ranges_more : (at : ℕ → ℕ) (left later : List Entry) (n here : ℕ) (mark behind : Option OpenRange) (x : Entry)
    (old new whole : List Range) → left ≡ x ∷ later → here ≡ at n → old ++ ranges_from at n mark left ≡ whole
    → new ≡ old ++ closes here mark x → behind ≡ opens here mark x
    → new ++ ranges_from at (n + 1) behind later ≡ whole
ranges_more at left later n here mark behind x old new whole list place before more next = rw add-one (
    ap (λ (rs : List Range). rs ++ ranges_from at (suc n) behind later) more
    ∙ append_assoc old (closes here mark x) (ranges_from at (suc n) behind later)
    ∙ ap (λ (o : Option OpenRange). old ++ (closes here mark x ++ ranges_from at (suc n) o later)) next
    ∙ ap (λ (a : ℕ). old ++ (closes a mark x ++ ranges_from at (suc n) (opens a mark x) later)) place
    ∙ sym (ap (λ (xs : List Entry). old ++ ranges_from at n mark xs) list) ∙ before)
