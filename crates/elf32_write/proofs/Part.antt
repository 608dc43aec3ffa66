-- A part of a file, by its place, and the fields that are read in it.
use Rattle.elf32_write.proofs.Common.{◌≡◌, ℕ, ◌+◌, ◌^◌, ◌<◌, ◌≤◌, List, [], ◌∷◌, ◌++◌, length, take, drop, refl, ap, ◌∙◌, append_assoc, append-nil, length-append, arith, le-leb, big_bytes, length-bytes_high_first, flat_map, unwrap_or, take_at, drop_at, big_number-reads_back, be_field}

-- `part` stands at `at`
pub record Part (file : List ℕ) (at : ℕ) (part : List ℕ) : Type 0 where
  pub before : List ℕ
  pub after : List ℕ
  pub is : file ≡ before ++ (part ++ after)
  pub place : length before ≡ at

pub part_last : (xs ys : List ℕ) {at : ℕ} → length xs ≡ at → Part (xs ++ ys) at ys
part_last xs ys there = record { before = xs; after = []; is = rw append-nil refl; place = there }

module _ {file : List ℕ} {at : ℕ} where
  -- the first and the second part of a part
  pub part_front : (xs ys : List ℕ) → Part file at (xs ++ ys) → Part file at xs
  part_front xs ys p = record { before = p.before; after = ys ++ p.after; is = simp append_assoc at p.is; place = p.place }

  pub part_back : {to : ℕ} (xs ys : List ℕ) → to ≡ at + length xs → Part file at (xs ++ ys) → Part file to ys
  part_back xs ys there p =
      record { before = p.before ++ xs; after = p.after; is = rw append_assoc (simp append_assoc at p.is); place = rw (length-append, p.place, there) refl }

  -- more after a file
  pub part_more : (ys : List ℕ) {part : List ℕ} → Part file at part → Part (file ++ ys) at part
  part_more ys p =
      record { before = p.before; after = p.after ++ ys; is = ap (λ z. z ++ ys) p.is ∙ simp append_assoc; place = p.place }

  -- what stands there
  drop_part : {part : List ℕ} (p : Part file at part) → drop at file ≡ part ++ p.after
  drop_part p = ap (drop at) p.is ∙ drop_at p.before _ at p.place

  pub take_part : {part : List ℕ} → Part file at part → take (length part) (drop at file) ≡ part
  take_part {part = part} p = rw (drop_part p) (take_at part p.after _ refl)

  pub length_part : {part : List ℕ} (p : Part file at part) → length file ≡ at + length part + length p.after
  length_part p = omega (arith, simp length-append at (ap length p.is), p.place)

-- numbers of n bytes, one after the other, the first k bytes behind `at`
abbrev pub FieldsAt : (n : ℕ) (file : List ℕ) (at k : ℕ) → List ℕ → Type 0
FieldsAt n file at k [] = Unit {0}
FieldsAt n file at k (x ∷ xs) = (x < 256 ^ n → unwrap_or (be_field n file (at + k)) 0 ≡ x) × FieldsAt n file at (k + n) xs

pub fields_at : (n : ℕ) (file : List ℕ) (at k : ℕ) (xs : List ℕ) → Part file (at + k) (flat_map (big_bytes n) xs) → FieldsAt n file at k xs
fields_at n file at k [] p = tt
fields_at n file at k (x ∷ xs) p =
    let here : Part file (at + k) (big_bytes n x) = part_front (big_bytes n x) (flat_map (big_bytes n) xs) p in
    let size = length-bytes_high_first n x in
    let inside : at + k + n ≤ length file = omega (arith, length_part here) in (
      λ fits. rw (le-leb (at + k + n) (length file) inside, drop_part here, big_number-reads_back n x here.after fits) refl,
      fields_at n file at (k + n) xs (part_back (big_bytes n x) (flat_map (big_bytes n) xs) (omega (arith, size)) p),
    )
