-- Operations on edges.
use Rattle.snippets.proofs.Common.{if◌then◌else◌, ◌≡◌, ℕ, ◌<◌, ◌^◌, true, List, [], ◌∷◌, ◌++◌, Option, Some, None, inl, inr, decimal, codes, refl, ap, ap₂, sym, subst, ◌∙◌, Op, Add, Put, Keep, Top, Count, Log, cell_of, IsLine, IsSpelled, line_text, after_edge, bare_of, full_of, number_of, op_of, operation_of, register_of, split_at}
use Rattle.std.specs.Option.{option_map, option_or}
use Rattle.std.specs.Str.{bytes_eq}
use Rattle.std.proofs.lemmas.Slice.Eq.{bytes_eq-Decides}
use Rattle.line_words.specs.Registers.{register_text}
use Rattle.line_words.proofs.Steps.{chosen, mapped, step, tested}
use Rattle.line_words.proofs.Numbers.{number_back, number_read}
use Rattle.line_words.proofs.Registers.{register_back, register_read}
use Rattle.line_words.proofs.Split.{decimal_whole, is_whole, split_back, split_read}

abbrev kind_text : Op → List ℕ
kind_text (Add cell amount) = codes "add"
kind_text (Put cell value) = codes "put"
kind_text (Keep cell reg) = codes "keep"
kind_text (Top cell reg) = codes "top"
kind_text (Count cell) = codes "count"
kind_text (Log cell bits value) = []

abbrev operand_text : Op → List ℕ
operand_text (Add cell amount) = decimal amount
operand_text (Put cell value) = decimal value
operand_text (Keep cell reg) = register_text reg
operand_text (Top cell reg) = register_text reg
operand_text (Count cell) = []
operand_text (Log cell bits value) = []

-- a word, and what stands behind the space after it
abbrev glued : List ℕ → List ℕ → List ℕ
glued word rest = word ++ (32 ∷ rest)

-- what stands behind the kind
abbrev rest_text : Op → List ℕ
rest_text (Count cell) = decimal cell
rest_text op = glued (decimal (cell_of op)) (operand_text op)

-- An operation that has an operand.
abbrev HasOperand : Op → Type 0
HasOperand (Count cell) = ⊥
HasOperand op = IsSpelled op

-- an operation's words
record OpRead (kind : List ℕ) (cell : ℕ) (operand : List ℕ) (op : Op) : Type 0 where
  same_cell : cell_of op ≡ cell
  same_kind : kind ≡ kind_text op
  same_operand : operand ≡ operand_text op
  fits : cell < 2 ^ 32 → HasOperand op

module _ (kind : List ℕ) (cell : ℕ) (operand : List ℕ) (op : Op) where
  -- a word of an operation with an operand
  operand_op : {of : List ℕ → Option ℕ} {text : ℕ → List ℕ} {bound : ℕ}
      → ((word : List ℕ) (n : ℕ) → of word ≡ Some n → (word ≡ text n) × (n < bound)) → (make : ℕ → ℕ → Op)
      → ((n : ℕ) → n < bound → OpRead kind cell (text n) (make cell n)) → option_map (make cell) (of operand) ≡ Some op
      → OpRead kind cell operand op
  operand_op {of} {text} read make says h =
      let found = mapped (make cell) (of operand) op h in
      let is = read operand found.got found.is in
      subst (OpRead kind cell operand) found.same
      (subst (λ (w : List ℕ). OpRead kind cell w (make cell found.got)) (sym is.0) (says found.got is.1))

  asked : (word : List ℕ) (one others : Option Op) → (if bytes_eq kind word then one else others) ≡ Some op
      → (kind ≡ word → one ≡ Some op → OpRead kind cell operand op) → (others ≡ Some op → OpRead kind cell operand op)
      → OpRead kind cell operand op
  asked word one others h first rest =
      elim (chosen (bytes_eq kind word) one others op h) as (λ _. OpRead kind cell operand op) [
        | inl is ↦ first ((bytes_eq-Decides kind word).0 is.0) is.1
        | inr is ↦ rest is.1
      ]

  -- what is left to say of one with an operand
  with_operand : (read : Op) → cell_of read ≡ cell → kind ≡ kind_text read → (cell < 2 ^ 32 → HasOperand read)
      → OpRead kind cell (operand_text read) read
  with_operand read same_cell same_kind fits =
      record { same_cell = same_cell; same_kind = same_kind; same_operand = refl; fits = fits }

  op_read : op_of kind cell operand ≡ Some op → OpRead kind cell operand op
  unfolding op_of
  op_read h =
      asked (codes "add") _ _ h (λ is. operand_op number_read Add (λ n fits. with_operand (Add cell n) refl is (λ small. (small, fits))))
      (λ h. asked (codes "put") _ _ h (λ is. operand_op number_read Put (λ n fits. with_operand (Put cell n) refl is (λ small. (small, fits))))
      (λ h. asked (codes "keep") _ _ h (λ is. operand_op register_read Keep (λ n fits. with_operand (Keep cell n) refl is (λ small. (small, fits))))
      (λ h. asked (codes "top") _ _ h (λ is. operand_op register_read Top (λ n fits. with_operand (Top cell n) refl is (λ small. (small, fits))))
      (λ h. absurd (cc h)))))

op_back : (op : Op) → HasOperand op → op_of (kind_text op) (cell_of op) (operand_text op) ≡ Some op
unfolding op_of
op_back (Add cell amount) fits = rw (number_back amount fits.1) refl
op_back (Put cell value) fits = rw (number_back value fits.1) refl
op_back (Keep cell reg) fits = rw (register_back reg fits.1) refl
op_back (Top cell reg) fits = rw (register_back reg fits.1) refl
op_back op fits = absurd fits

kind_whole : (op : Op) → is_whole 32 (kind_text op) ≡ true
kind_whole (Count cell) = refl
kind_whole op = refl

-- ---- the words behind the edge

abbrev found_of : List ℕ → List ℕ → Option Op
found_of kind words = option_or (bare_of kind words) (full_of kind words)

-- words that can be read
full_words : (kind words cell_word operand : List ℕ) (cell : ℕ) (op : Op)
    → split_at 32 words ≡ Some (cell_word, operand) → number_of cell_word ≡ Some cell
    → op_of kind cell operand ≡ Some op → full_of kind words ≡ Some op
unfolding full_of
full_words kind words cell_word operand cell op a b c = rw (a, b, c) refl

full_back : (op : Op) → HasOperand op → cell_of op < 2 ^ 32
    → full_of (kind_text op) (glued (decimal (cell_of op)) (operand_text op)) ≡ Some op
full_back op has small =
    let cell = decimal (cell_of op) in
    let operand = operand_text op in
    full_words (kind_text op) (glued cell operand) cell operand (cell_of op) op
    (split_back 32 cell operand (decimal_whole 32 refl (cell_of op) small)) (number_back (cell_of op) small)
    (op_back op has)

count_back : (cell : ℕ) → cell < 2 ^ 32 → bare_of (codes "count") (decimal cell) ≡ Some (Count cell)
unfolding bare_of
count_back cell small = rw (number_back cell small) refl

found_back : (op : Op) → IsSpelled op → found_of (kind_text op) (rest_text op) ≡ Some op
unfolding bare_of
found_back (Count cell) fits =
    ap (λ (found : Option Op). option_or found (full_of (codes "count") (decimal cell))) (count_back cell fits)
found_back (Log cell bits value) fits = absurd fits
found_back op fits = full_back op fits fits.0

-- what was read
record Found (kind words : List ℕ) (op : Op) : Type 0 where
  kind_is : kind ≡ kind_text op
  words_are : words ≡ rest_text op
  fits : IsSpelled op

bare_read : (kind words : List ℕ) (op : Op) → bare_of kind words ≡ Some op → Found kind words op
unfolding bare_of
bare_read kind words op h =
    elim (chosen (bytes_eq kind (codes "count")) _ _ op h) as (λ _. Found kind words op) [
      | inl is ↦
          let found = mapped Count (number_of words) op is.1 in
          let number = number_read words found.got found.is in
          subst (Found kind words) found.same
          (record {
            kind_is = (bytes_eq-Decides kind (codes "count")).0 is.0;
            words_are = number.0;
            fits = number.1;
          })
      | inr none ↦ absurd (cc none.1)
    ]

found_full : (kind words : List ℕ) (op : Op) → kind ≡ kind_text op
    → words ≡ glued (decimal (cell_of op)) (operand_text op) → HasOperand op → Found kind words op
found_full kind words (Count cell) a b has = absurd has
found_full kind words (Log cell bits value) a b has = absurd has
found_full kind words op a b has = record { kind_is = a; words_are = b; fits = has }

full_joined : (kind words : List ℕ) (parts : List ℕ × List ℕ) (cell : ℕ) (op : Op) → split_at 32 words ≡ Some parts
    → number_of parts.0 ≡ Some cell → op_of kind cell parts.1 ≡ Some op → Found kind words op
full_joined kind words parts cell op a b c =
    let cell_is = number_read parts.0 cell b in
    let is = op_read kind cell parts.1 op c in
    let cell_text = cell_is.0 ∙ ap decimal (sym is.same_cell) in
    found_full kind words op is.same_kind (split_read 32 words parts a ∙ ap₂ glued cell_text is.same_operand)
    (is.fits cell_is.1)

full_read : (kind words : List ℕ) (op : Op) → full_of kind words ≡ Some op → Found kind words op
unfolding full_of
full_read kind words =
    step (Found kind words) (split_at 32 words) _ (λ parts a.
    step (Found kind words) (number_of parts.0) _ (λ cell b op c. full_joined kind words parts cell op a b c))

either : (m n : Option Op) (op : Op) (P : Type 0) → (m ≡ Some op → P) → (n ≡ Some op → P) → option_or m n ≡ Some op
    → P
either (Some x) n op P one other h = one h
either None n op P one other h = other h

found_read : (kind words : List ℕ) (op : Op) → found_of kind words ≡ Some op → Found kind words op
found_read kind words op =
    either (bare_of kind words) (full_of kind words) op (Found kind words op) (bare_read kind words op)
    (full_read kind words op)

-- ---- a line

-- its words, with a space between each two
abbrev spaced : List ℕ → List ℕ → List ℕ → List ℕ
spaced edge kind rest = codes "edge" ++ (32 ∷ (edge ++ (32 ∷ (kind ++ (32 ∷ rest)))))

line_spaced : (edge : ℕ) (op : Op) → IsSpelled op
    → line_text edge op ≡ spaced (decimal edge) (kind_text op) (rest_text op)
line_spaced edge (Log cell bits value) fits = absurd fits
line_spaced edge op fits = refl

-- words that can be read
words_back : (line first edge_word second kind third : List ℕ) (edge : ℕ) (op : Op)
    → split_at 32 line ≡ Some (codes "edge", first) → split_at 32 first ≡ Some (edge_word, second)
    → number_of edge_word ≡ Some edge → split_at 32 second ≡ Some (kind, third) → found_of kind third ≡ Some op
    → operation_of line ≡ Some (edge, op)
unfolding operation_of
words_back line first edge_word second kind third edge op a b c d e = rw (a, b, c, d, e) refl

-- lines that are written are read
pub operation_back : (line : List ℕ) (edge : ℕ) (op : Op) → IsLine line edge op → operation_of line ≡ Some (edge, op)
operation_back line edge op is =
    let third = rest_text op in
    let second = kind_text op ++ (32 ∷ third) in
    let first = decimal edge ++ (32 ∷ second) in
    let verb = ap (split_at 32) (is.text ∙ line_spaced edge op is.op_fits) ∙ split_back 32 (codes "edge") first refl in
    let at_edge = split_back 32 (decimal edge) second (decimal_whole 32 refl edge is.edge_fits) in
    let at_kind = split_back 32 (kind_text op) third (kind_whole op) in
    words_back line first (decimal edge) second (kind_text op) third edge op verb at_edge
    (number_back edge is.edge_fits) at_kind (found_back op is.op_fits)

-- words that were read
joined : (line : List ℕ) (first : List ℕ × List ℕ) (rest : List ℕ) (second third : List ℕ × List ℕ)
    (edge : ℕ) (op : Op) → split_at 32 line ≡ Some first → after_edge first ≡ Some rest
    → split_at 32 rest ≡ Some second → number_of second.0 ≡ Some edge → split_at 32 second.1 ≡ Some third
    → found_of third.0 third.1 ≡ Some op → IsLine line edge op
joined line first rest second third edge op a b c d e f =
    let verb = tested (bytes_eq first.0 (codes "edge")) first.1 rest b in
    let begins = (bytes_eq-Decides first.0 (codes "edge")).0 verb.0 in
    let edge_is = number_read second.0 edge d in
    let is = found_read third.0 third.1 op f in
    let at_kind = split_read 32 second.1 third e ∙ ap₂ glued is.kind_is is.words_are in
    let at_edge = split_read 32 rest second c ∙ ap₂ glued edge_is.0 at_kind in
    let whole = split_read 32 line first a ∙ ap₂ glued begins (verb.1 ∙ at_edge) in
    record { text = whole ∙ sym (line_spaced edge op is.fits); edge_fits = edge_is.1; op_fits = is.fits }

-- The line is the one that was read.
IsRead : List ℕ → ℕ × Op → Type 0
IsRead line found = IsLine line found.0 found.1

-- and no other line is
pub operation_read : (line : List ℕ) (found : ℕ × Op) → operation_of line ≡ Some found → IsLine line found.0 found.1
unfolding operation_of IsRead
operation_read line =
    step (IsRead line) (split_at 32 line) _ (λ first a.
    step (IsRead line) (after_edge first) _ (λ rest b.
    step (IsRead line) (split_at 32 rest) _ (λ second c.
    step (IsRead line) (number_of second.0) _ (λ edge d.
    step (IsRead line) (split_at 32 second.1) _ (λ third e.
    step (IsRead line) (found_of third.0 third.1) _ (λ op f found same.
    subst (IsRead line) (cc same) (joined line first rest second third edge op a b c d e f)))))))
