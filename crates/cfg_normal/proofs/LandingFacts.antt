-- What is kept of a block says what the open switches do.
use Rattle.cfg_normal.proofs.Common.{◌≡◌, ℕ, zero, suc, ◌+◌, ◌<◌, ◌≤◌, Bool, true, false, ◌||◌, List, [], ◌∷◌, ◌++◌, length, refl, ap, sym, ◌∙◌, arith, cond, inl, inr, subst, get_or, Some, None, Option, ◌==◌, ◌&&◌, not, nat_lt, All, list_any, append-nil, get_or_append_left, get_or_push, length_push, list_any-append, list_any_at, or-false, ne_eqb, or_parts, cases_Bool, eq-eqb, eqb-true, or_left, Words, word_at, EdgeKind, Switch, Blocks, holding_of, Entered, marked, any_below_same, list_any-map, Node, Block, Landed, X, same_kind, directed, is_compared, AreTabled, AreTargetsIn, IsJumpOf, has_copy, is_from, is_jump_block, lands_by, noted, with_compare, IsLanding, AreOne, AreOpenIn, Open, compares_in, is_behind, is_closed, is_copied, is_tabled, jump_number, jumps_in, meets_any, is_some, position, targets_in, words_from, nat_tests}
use Rattle.eel_base.specs.declared.numbers.BlockNo.{BlockNo}
use Rattle.cfg_normal.specs.declared.landings.LandingRule.{LandingRule}
use Rattle.cfg_normal.specs.declared.landings.LandingRule.TheVariants.{Home, Behind, Copied}
use Rattle.cfg_normal.proofs.TableWords.{table_is}

-- a number in the list of them, with its block
pub jumps_at : (opens : List Open) (block k : ℕ) → k < length opens
    → ((d : Open) → (get_or opens k d).block ≡ block) → jumps_in opens block ≡ true
jumps_at [] block k l at = absurd (omega arith)
jumps_at (o ∷ opens) block k l at =
    list_any_at (λ (o : Open). o.block == block) (o ∷ opens) k o l (eq-eqb (get_or (o ∷ opens) k o).block block (at o))

pub jumps_by : (opens : List Open) (block : ℕ) (landing : LandingRule) → IsLanding opens block landing
    → is_jump_block landing ≡ jumps_in opens block
jumps_by opens block Home is = sym is.0
jumps_by opens block (Behind compare) is = sym is.0
jumps_by opens block (Copied k) is = sym (jumps_at opens block k is.0 is.1)

pub lands_as : (opens : List Open) (block word : ℕ) (landing : LandingRule) → IsLanding opens block landing
    → lands_by landing word ≡ (jumps_in opens block || is_behind opens block word)
lands_as opens block word Home is = rw is.0 (sym (is.2 word))
lands_as opens block word (Behind compare) is = rw is.0 (sym (is.2 word))
lands_as opens block word (Copied k) is = rw (jumps_at opens block k is.0 is.1) refl

pub copied_as : (opens : List Open) (block : ℕ) (landing : LandingRule) → IsLanding opens block landing
    → has_copy landing ≡ is_copied opens block
copied_as opens block Home is = rw (is.0, is.1) refl
copied_as opens block (Behind compare) is = rw (is.0, is.1) refl
copied_as opens block (Copied k) is = rw (jumps_at opens block k is.0 is.1) refl

-- ---- the open switch of a block

none_jumps : (opens : List Open) (block : ℕ) (p : Open → Bool) → jumps_in opens block ≡ false
    → list_any (λ (o : Open). (o.block == block) && p o) opens ≡ false
none_jumps [] block p h = refl
none_jumps (o ∷ opens) block p h = let rest = none_jumps opens block p in grind (arith, rest)

-- whether some item passes
pub some_is_any : {A : Type 0} (p : A → Bool) (xs : List A) → is_some (position p xs) ≡ list_any p xs
some_is_any p [] = refl
some_is_any p (x ∷ xs) = grind (arith, nat_tests, some_is_any p xs)

pub jump_found : (opens : List Open) (block : ℕ) (found : Option ℕ) → found ≡ jump_number opens block
    → is_some found ≡ jumps_in opens block
jump_found opens block found is = ap is_some is ∙ some_is_any (λ (o : Open). o.block == block) opens

pub no_number : (opens : List Open) (block : ℕ) (landing : LandingRule) → IsLanding opens block landing
    → ((k : ℕ) → landing ≡ Copied k → ⊥) → None ≡ jump_number opens block
no_number opens block landing is other = none opens (unjumped landing is other)
  where
    unjumped : (landing : LandingRule) → IsLanding opens block landing → ((k : ℕ) → landing ≡ Copied k → ⊥)
        → jumps_in opens block ≡ false
    unjumped Home is other = is.0
    unjumped (Behind compare) is other = is.0
    unjumped (Copied k) is other = absurd (other k refl)

    none : (opens : List Open) → jumps_in opens block ≡ false → None ≡ jump_number opens block
    none [] h = refl
    none (o ∷ opens) h =
        let parts = or_parts (o.block == block) (jumps_in opens block) h in
        let rest = none opens parts.1 in
        grind (arith, nat_tests, parts.0, rest)

pub number_at : (opens : List Open) → AreOne opens → (block k : ℕ) → k < length opens
    → ((d : Open) → (get_or opens k d).block ≡ block) → Some k ≡ jump_number opens block
number_at [] one block k l at = absurd (omega arith)
number_at (o ∷ opens) one block zero l at =
    let here = eq-eqb o.block block (at o) in
    grind (arith, nat_tests, here)
number_at (o ∷ opens) one block (suc k) l at =
    let later : jumps_in opens block ≡ true = jumps_at opens block k (omega arith) at in
    let other : (o.block == block) ≡ false = ne_eqb o.block block (λ e. cc (one.0, later)) in
    let rest = number_at opens one.1 block k (omega arith) at in
    grind (arith, nat_tests, other, rest)

-- a test is asked of it alone
pub asked_at : (opens : List Open) → AreOne opens → (block k : ℕ) (p : Open → Bool) (d : Open) → k < length opens
    → ((d : Open) → (get_or opens k d).block ≡ block)
    → list_any (λ (o : Open). (o.block == block) && p o) opens ≡ p (get_or opens k d)
asked_at [] one block k p d l at = absurd (omega arith)
asked_at (o ∷ opens) one block zero p d l at =
    let here : o.block ≡ block = at d in
    rw (eq-eqb o.block block here, none_jumps opens block p (rw here at one.0)) (or-false (p o))
asked_at (o ∷ opens) one block (suc k) p d l at =
    let later : jumps_in opens block ≡ true = jumps_at opens block k (omega arith) at in
    let other : (o.block == block) ≡ false = ne_eqb o.block block (λ e. cc (one.0, later)) in
    rw other (asked_at opens one.1 block k p d (omega arith) at)

pub targets_at : (opens : List Open) → AreOne opens → (block k : ℕ) (d : Open) → k < length opens
    → ((d : Open) → (get_or opens k d).block ≡ block) → targets_in opens block ≡ (get_or opens k d).targets
targets_at [] one block k d l at = absurd (omega arith)
targets_at (o ∷ opens) one block zero d l at =
    let here : o.block ≡ block = at d in
    rw (eq-eqb o.block block here, no_targets opens block (rw here at one.0)) (append-nil o.targets)
  where
    no_targets : (opens : List Open) (block : ℕ) → jumps_in opens block ≡ false → targets_in opens block ≡ []
    no_targets [] block h = refl
    no_targets (o ∷ opens) block h =
        let parts = or_parts (o.block == block) (jumps_in opens block) h in
        rw parts.0 (no_targets opens block parts.1)
targets_at (o ∷ opens) one block (suc k) d l at =
    let later : jumps_in opens block ≡ true = jumps_at opens block k (omega arith) at in
    let other : (o.block == block) ≡ false = ne_eqb o.block block (λ e. cc (one.0, later)) in
    rw other (targets_at opens one.1 block k d (omega arith) at)

pub targets_known : (b : Blocks) (opens : List Open) → AreOpenIn b opens → (block k : ℕ) → IsJumpOf opens block k
    → (o : Open) → o ≡ get_or opens k o → AreTargetsIn b opens block o.targets
targets_known b opens are block k is o read = record {
  jumps = is.1;
  are = targets_at opens are.one block k o is.0 is.2 ∙ ap (λ (o : Open). o.targets) (sym read);
  within = subst (λ (o : Open). All (λ word. word < b.words) o.targets) (sym read) (are.each k o is.0).targets;
}

pub compared_at : (opens : List Open) → AreOne opens → (from : Node) (kind : EdgeKind) (block k : ℕ) (d : Open)
    → k < length opens → ((d : Open) → (get_or opens k d).block ≡ block)
    → is_compared opens from kind block ≡ is_from (get_or opens k d) from kind
compared_at opens one (Block from) kind block k d l at =
    any_same opens ∙ asked_at opens one block k (λ (o : Open). (o.switch.compare.0 == from.0) && same_kind kind o.way) d l at
  where
    any_same : (opens : List Open) → is_compared opens (Block from) kind block
        ≡ list_any (λ (o : Open). (o.block == block) && ((o.switch.compare.0 == from.0) && same_kind kind o.way)) opens
    any_same [] = refl
    any_same (o ∷ opens) = let rest = any_same opens in grind (arith, rest)
compared_at opens one X kind block k d l at = refl
compared_at opens one (Landed from) kind block k d l at = refl

-- where an edge leads, by the open switch of the block
pub directed_at : (opens : List Open) → AreOne opens → (from : Node) (kind : EdgeKind) (to : BlockNo) (k : ℕ)
    → IsJumpOf opens to.0 k → (t : Bool) → ((d : Open) → t ≡ is_from (get_or opens k d) from kind)
    → cond t (Block to) (Landed to) ≡ directed opens from kind (Block to)
directed_at opens one from kind to k is t h =
    rw is.1 (same t (h (first opens is.0) ∙ sym (compared_at opens one from kind to.0 k (first opens is.0) is.0 is.2)))
  where
    first : (opens : List Open) → k < length opens → Open
    first [] l = absurd (omega arith)
    first (o ∷ opens) l = o

    same : (t : Bool) → t ≡ is_compared opens from kind to.0
        → cond t (Block to) (Landed to)
        ≡ cond (not (is_compared opens from kind to.0)) (Landed to) (Block to)
    same t e = grind arith

-- ---- one open switch more

earlier : (c d w : ℕ) → (nat_lt d w || nat_lt c w) ≡ lands_by (with_compare (Behind d) c) w
earlier c d w = grind (arith, nat_tests)

module _ (opens : List Open) (o : Open) (block : ℕ) where
  abbrev more : List Open
  more = opens ++ o ∷ []

  -- neither of its blocks is this one
  kept_apart : (landing : LandingRule) → (o.block == block) ≡ false → (o.switch.compare.0 == block) ≡ false
      → IsLanding opens block landing → IsLanding more block landing
  kept_apart Home j c is = (
    simp (list_any-append, is.0, j),
    simp (list_any-append, is.1, c),
    λ word. simp (list_any-append, is.2 word, c),
  )
  kept_apart (Behind compare) j c is = (
    simp (list_any-append, is.0, j),
    simp (list_any-append, is.1),
    λ word. simp (list_any-append, is.2 word, c, or-false),
  )
  kept_apart (Copied k) j c is =
      (omega (arith, is.0, length_push opens o), λ d. rw (get_or_append_left opens (o ∷ []) d k is.0) (is.1 d))

  compared : (landing : LandingRule) → (o.block == block) ≡ false → (o.switch.compare.0 == block) ≡ true
      → IsLanding opens block landing → IsLanding more block (with_compare landing o.approach.compare.word)
  compared Home j c is = (
    simp (list_any-append, is.0, j),
    simp (list_any-append, is.1, c),
    λ word. simp (list_any-append, is.2 word, c, or-false),
  )
  compared (Behind compare) j c is =
      let word = o.approach.compare.word in
      let found : (x : ℕ) → is_behind more block x ≡ lands_by (with_compare (Behind compare) word) x =
      (λ x. simp (list_any-append, is.2 x, c, or-false) (earlier word compare x)) in
      least word compare (nat_lt word compare) (simp (list_any-append, is.0, j)) (simp (list_any-append, is.1)) found
    where
      least : (m n : ℕ) (t : Bool) → jumps_in more block ≡ false → compares_in more block ≡ true
          → ((x : ℕ) → is_behind more block x ≡ lands_by (cond t (Behind m) (Behind n)) x)
          → IsLanding more block (cond t (Behind m) (Behind n))
      least m n true a b f = (a, b, f)
      least m n false a b f = (a, b, f)
  compared (Copied k) j c is =
      (omega (arith, is.0, length_push opens o), λ d. rw (get_or_append_left opens (o ∷ []) d k is.0) (is.1 d))

  pub noted_is : (number : ℕ) (landing : LandingRule) → length opens ≡ number → IsLanding opens block landing
      → IsLanding more block (noted o number block landing)
  noted_is number landing n is = elim (cases_Bool (o.block == block)) [
    | inl j ↦ rw j (
      omega (arith, length_push opens o),
      λ d. ap (λ (p : Open). p.block) (get_or_push opens o d number n) ∙ eqb-true o.block block j,
    )
    | inr j ↦ rw j (elim (cases_Bool (o.switch.compare.0 == block)) [
      | inl c ↦ rw c (compared landing j c is)
      | inr c ↦ rw c (kept_apart landing j c is)
    ])
  ]

-- ---- which switches are closed

pub closed_jumps : (text : Words) (list : Entered) (opens : List Open) (switch : Switch) (block : ℕ) (landing : LandingRule)
    → block ≡ holding_of list.blocks switch.jump.0 → IsLanding opens block landing → is_jump_block landing ≡ true
    → true ≡ is_closed text list opens switch
closed_jumps text list opens switch block landing at is jumps =
    sym (or_left (jumps_in opens (holding_of list.blocks switch.jump.0)) (meets_any text opens switch)
    (rw (← at) (sym (jumps_by opens block landing is) ∙ jumps)))

pub closed_meets : (text : Words) (list : Entered) (opens : List Open) (switch : Switch) (block : ℕ) (landing : LandingRule)
    (marks : List Bool) (from : ℕ) → block ≡ holding_of list.blocks switch.jump.0 → IsLanding opens block landing
    → is_jump_block landing ≡ false → AreTabled text opens marks → word_at text switch.table.0 ≡ Some from
    → from + switch.count ≤ length text.words
    → list_any (marked marks) (words_from from switch.count) ≡ is_closed text list opens switch
closed_meets text list opens switch block landing marks from at is jumps tabled table within =
    let no_jump : jumps_in opens (holding_of list.blocks switch.jump.0) ≡ false =
    rw (← at) (sym (jumps_by opens block landing is) ∙ jumps) in
    rw (no_jump, table_is text switch from table, list_any-map (marked marks), list_any-map (is_tabled text opens))
    (any_below_same switch.count _ _ (λ k h. tabled.each (from + k) (omega arith)))
