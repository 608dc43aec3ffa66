-- Each entry's words stand in the code, and say what it is.
use Rattle.layout.proofs.Common.{◌≡◌, ℕ, zero, suc, ◌+◌, ◌-◌, ◌*◌, ◌/◌, ◌%◌, ◌^◌, ◌<◌, ◌≤◌, inl, inr, Bool, true, false, List, [], ◌∷◌, ◌++◌, length, slice_get, Option, Some, refl, ap, sym, ◌∙◌, arith, length-append, pos, negsuc, nat_lt, if◌then◌else◌, slice_index, nat_tests, lt-ltb, cases_lt, cond_both, Instr, long_jump, of_page, Item, Entry, Placement, SaysFrom, JumpStands, jump_nothing, jump_short, jump_long, BranchStands, branch_short, branch_long, Stands, Reaches, nop, opposite, Forms, far, leads_next, offset, width, between, branch_in_form, code_at, code_to, entry_code, has_condition, jump_in_form, or_zero, target_offset}
use Rattle.std.proofs.lemmas.Int.{ints}
use Rattle.v8_decode.specs.declared.Op2.TheVariants.{Imm}
use Rattle.v8_decode.specs.declared.Instr.TheVariants as i
use Rattle.v8_decode.specs.declared.LoadKind.TheVariants as loads
use Rattle.v8_decode.specs.declared.StoreKind.TheVariants as stores
use Rattle.v8_decode.specs.Words.{decode_of}
use Rattle.v8_encode.specs.Encoding.{word_of}
use Rattle.v8_encode.specs.Code.{fits_signed}
use Rattle.v8_encode.proofs.Decoded.{decode_of-word_of}
use Rattle.layout.specs.declared.items.Item.TheVariants as it
use Rattle.layout.specs.declared.entries.Entry.TheVariants as en
use Rattle.layout.specs.Emitting.{words_of}
use Rattle.layout.proofs.Emitted.{code_more, code_none}
use Rattle.layout.proofs.Offsets.{offset_none}
use Rattle.layout.proofs.Widening.{offset_more}

near_means : (f t : ℕ) → far f t ≡ false → (t < f + 2 ^ 21) × (f ≤ t + 2 ^ 21)
near_means f t h = (grind (arith, nat_tests), grind (arith, nat_tests))

up_is : (f t : ℕ) → f ≤ t → between f t ≡ pos (t - f)
up_is f t l = omega (arith, ints)

down_is : (f t : ℕ) → t < f → between f t ≡ negsuc (f - t - 1)
down_is f t l = omega (arith, ints)

fits : (f t : ℕ) → far f t ≡ false → fits_signed 22 (between f t) ≡ true
fits f t h = elim (cases_lt t f) [
  | inl l ↦ rw (down_is f t l) (lt-ltb (f - t - 1) (2 ^ 21) (omega (arith, (near_means f t h).1, l)))
  | inr l ↦ rw (up_is f t l) (lt-ltb (t - f) (2 ^ 21) (omega (arith, (near_means f t h).0, l)))
]

pub reaches : (base f t : ℕ) → base + 4 * f ≤ 2 ^ 31 → base + 4 * t ≤ 2 ^ 31
    → Reaches (base + 4 * f) (base + 4 * t) (between f t)
reaches base f t a b = elim (cases_lt t f) [
  | inl l ↦ rw (down_is f t l) (omega arith)
  | inr l ↦ rw (up_is f t l) (omega arith)
]

-- ---- words in code

-- these words stand in the code from word n on
abbrev pub Has : List ℕ → ℕ → List ℕ → Type 0
Has code n ws = (j w : ℕ) → slice_get ws j ≡ Some w → slice_get code (n + j) ≡ Some w

pub get_first : {A : Type 0} (xs ys : List A) (j : ℕ) (w : A) → slice_get xs j ≡ Some w → slice_get (xs ++ ys) j ≡ Some w
get_first [] ys j w e = absurd (cc)
get_first (x ∷ xs) ys zero w e = e
get_first (x ∷ xs) ys (suc j) w e = get_first xs ys j w e

pub get_rest : {A : Type 0} (xs ys : List A) (j : ℕ) → slice_get (xs ++ ys) (length xs + j) ≡ slice_get ys j
get_rest [] ys j = ap (slice_get ys) (let e : 0 + j ≡ j = omega arith in e)
get_rest (x ∷ xs) ys j = cc ((let e : suc (length xs) + j ≡ suc (length xs + j) = omega arith in e), get_rest xs ys j)

has_rest : (code xs ys : List ℕ) (n m : ℕ) → m ≡ n + length xs → Has code n (xs ++ ys) → Has code m ys
has_rest code xs ys n m f h j w e =
    cc ((let g : m + j ≡ n + (length xs + j) = omega arith in g), h (length xs + j) w (get_rest xs ys j ∙ e))

-- ---- instructions

abbrev AllDecode : List Instr → Type 0
AllDecode [] = Unit {0}
AllDecode (x ∷ xs) = (decode_of (word_of x) ≡ x) × AllDecode xs

says_words : (base : ℕ) (code : List ℕ) (xs : List Instr) (n a : ℕ) → a ≡ base + 4 * n → AllDecode xs
    → Has code n (words_of xs) → SaysFrom base code a xs
says_words base code [] n a e d h = tt
says_words base code (x ∷ xs) n a e d h = (
  (word_of x, (n, e, cc ((let g : n ≡ n + 0 = omega arith in g), h 0 (word_of x) refl)), d.0),
  says_words base code xs (n + 1) (a + 4) (omega arith) d.1
      (λ j w f. cc ((let g : n + 1 + j ≡ n + suc j = omega arith in g), h (suc j) w f)),
)

long_jump_decodes : (to : ℕ) → to < 2 ^ 32 → AllDecode (long_jump to)
long_jump_decodes to low =
    let saves = decode_of-word_of (i.Store stores.ST 1 0 (of_page 0)) refl refl in
    let sets = decode_of-word_of (i.Sethi 1 (to / 1024)) refl (lt-ltb _ _ (omega arith)) in
    let jumps = decode_of-word_of (i.Jmpl 0 1 (Imm (pos (to % 1024)))) refl (lt-ltb _ _ (omega arith)) in
    let restores = decode_of-word_of (i.Load loads.LD 1 0 (of_page 0)) refl refl in
    (saves, (sets, (jumps, (restores, tt))))

opposite_low : (cond : ℕ) → nat_lt cond 16 ≡ true → nat_lt (opposite cond) 16 ≡ true
opposite_low c h = cond_both (nat_lt c 8) (c + 8) (c - 8) (λ n. nat_lt n 16 ≡ true) (λ e. grind (arith, nat_tests))
    (λ e. grind (arith, nat_tests))

-- ---- how many words an entry has

entry_length : (base : ℕ) (long : Bool) (from to : ℕ) (x next : Option Entry)
    → length (entry_code base long from to x next) ≡ width long x next
entry_length base long from to x next = grind arith

pub code_length : (base : ℕ) (entries : List Entry) (long : Forms) (n : ℕ)
    → length (code_to base entries long n) ≡ offset entries long n
code_length base entries long zero = ap length (code_none base entries long) ∙ sym (offset_none entries long)
code_length base entries long (suc n) =
    let c = entry_length base (long n) (offset entries long n) (or_zero (target_offset entries long n)) (slice_get
    entries n) (slice_get entries (suc n)) in
    let same = ap length (code_more base entries long n) in
    let both = length-append (code_to base entries long n) (code_at base entries long n) in
    omega (arith, code_length base entries long n, same, both, c, offset_more entries long n)

-- the words of an entry stand in the code
pub has_code : (base : ℕ) (entries : List Entry) (long : Forms) (m n : ℕ) → n < m
    → Has (code_to base entries long m) (offset entries long n) (code_at base entries long n)
has_code base entries long zero n l = absurd (omega arith)
has_code base entries long (suc m) n l = elim (cases_lt n m) [
  | inl u ↦
      rw (code_more base entries long m)
      (λ j w f. get_first (code_to base entries long m) _ _ w (has_code base entries long m n u j w f))
  | inr u ↦ rw (let s : n ≡ m = omega arith in s) last
]
  where
    last : Has (code_to base entries long (suc m)) (offset entries long m) (code_at base entries long m)
    last j w f =
        rw (code_more base entries long m) (ap (λ (z : ℕ). slice_get (code_to base entries long m ++ code_at base entries long m)
        (z + j)) (sym (code_length base entries long m)) ∙ get_rest (code_to base entries long m) (code_at base entries long m) j ∙ f)

-- ---- what an item says

module _ (base : ℕ) (p : Placement) where
  jump_says : (long skip : Bool) (f t a b k : ℕ) → a ≡ base + 4 * f → k ≡ base + 4 * t → base + 4 * f ≤ 2 ^ 31
      → base + 4 * t ≤ 2 ^ 31 → (skip ≡ true → f ≡ t) → (long ≡ false → far f t ≡ false)
      → b ≡ a + 4 * (if skip then 0 else (if long then 4 else 1))
      → Has p.code f (if skip then [] else words_of (jump_in_form long base f t)) → JumpStands base p.code k a b
  jump_says long true f t a b k ea ek la lt here near eb h =
      let s : f ≡ t = here refl in jump_nothing (omega (arith, ea, ek, s)) (omega (arith, eb))
  jump_says true false f t a b k ea ek la lt here near eb h =
      jump_long (omega (arith, eb)) (rw ek
      (says_words base p.code (long_jump (base + 4 * t)) f a ea (long_jump_decodes (base + 4 * t) (omega (arith, lt)))
      h))
  jump_says false false f t a b k ea ek la lt here near eb h =
      jump_short (between f t) (omega (arith, eb)) (rw ek (rw ea (reaches base f t la lt)))
      (says_words base p.code (i.Branch 8 true (between f t) ∷ []) f a ea
      (decode_of-word_of (i.Branch 8 true (between f t)) refl (fits f t (near refl)), tt) h)

  branch_says : (long : Bool) (c f t a b k : ℕ) → nat_lt c 16 ≡ true → a ≡ base + 4 * f → k ≡ base + 4 * t
      → base + 4 * f ≤ 2 ^ 31
      → base + 4 * t ≤ 2 ^ 31 → (long ≡ false → far f t ≡ false) → b ≡ a + 4 * (if long then 6 else 2)
      → Has p.code f (words_of (branch_in_form long base c f t)) → BranchStands base p.code c k a b
  branch_says true c f t a b k range ea ek la lt near eb h =
      let first = i.Branch (opposite c) false (pos 6) ∷ nop ∷ [] in
      branch_long (omega (arith, eb)) (says_words base p.code first f a ea (
        decode_of-word_of (i.Branch (opposite c) false (pos 6)) (opposite_low c range) refl,
        (decode_of-word_of nop refl refl, tt),
      ) (λ j w e. h j w (get_first (words_of first) (words_of (long_jump (base + 4 * t))) j w e))) (rw ek
      (says_words base p.code (long_jump (base + 4 * t)) (f + 2) (a + 8) (omega (arith, ea))
      (long_jump_decodes (base + 4 * t) (omega (arith, lt)))
      (has_rest p.code (words_of first) (words_of (long_jump (base + 4 * t))) f (f + 2) refl h)))
  branch_says false c f t a b k range ea ek la lt near eb h =
      branch_short (between f t) (omega (arith, eb)) (rw ek (rw ea (reaches base f t la lt)))
      (says_words base p.code (i.Branch c true (between f t) ∷ nop ∷ []) f a ea (
        decode_of-word_of (i.Branch c true (between f t)) range (fits f t (near refl)),
        (decode_of-word_of nop refl refl, tt),
      ) h)

  -- the piece to which an item leads starts at word t
  abbrev pub GoesTo : Item → ℕ → Type 0
  GoesTo (it.Jump k) t = slice_index p.at k.0 ≡ base + 4 * t
  GoesTo (it.Branch c k) t = slice_index p.at k.0 ≡ base + 4 * t
  GoesTo _ t = Unit {0}

  abbrev pub IsNextAt : Item → Option Entry → ℕ → ℕ → Type 0
  IsNextAt (it.Jump k) next f t = leads_next k next ≡ true → f ≡ t
  IsNextAt _ next f t = Unit {0}

  abbrev pub IsNearTo : Item → Bool → ℕ → ℕ → Type 0
  IsNearTo (it.Jump k) long f t = long ≡ false → far f t ≡ false
  IsNearTo (it.Branch c k) long f t = long ≡ false → far f t ≡ false
  IsNearTo _ long f t = Unit {0}

  pub item_stands : (x : Item) (next : Option Entry) (long : Bool) (f t a b : ℕ) → a ≡ base + 4 * f
      → b ≡ a + 4 * width long (Some (en.Item x)) next → base + 4 * f ≤ 2 ^ 31 → base + 4 * t ≤ 2 ^ 31
      → has_condition (Some (en.Item x)) ≡ true → GoesTo x t → IsNextAt x next f t → IsNearTo x long f t
      → Has p.code f (entry_code base long f t (Some (en.Item x)) next) → Stands base p x a b
  item_stands (it.Word word) next long f t a b ea eb la lt c goes here near h = (
    omega (arith, eb),
    (f, ea, cc ((let g : f ≡ f + 0 = omega arith in g), h 0 word refl)),
  )
  item_stands (it.Jump k) next long f t a b ea eb la lt c goes here near h =
      jump_says long (leads_next k next) f t a b (slice_index p.at k.0) ea goes la lt here near eb h
  item_stands (it.Branch cond k) next long f t a b ea eb la lt c goes here near h =
      branch_says long cond f t a b (slice_index p.at k.0) c ea goes la lt near eb h
  item_stands (it.Mark address node) next long f t a b ea eb la lt c goes here near h = omega (arith, eb)
  item_stands it.EndMark next long f t a b ea eb la lt c goes here near h = omega (arith, eb)
