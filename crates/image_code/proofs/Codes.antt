-- The words of snippets do what they should.
use Rattle.image_code.proofs.Common.{[], ◌≡◌, ℕ, ◌+◌, ◌*◌, ◌%◌, ◌<◌, ◌≤◌, List, ◌∷◌, ◌++◌, length, append-nil, append_assoc, Result, Ok, Err, slice_get, refl, ap, sym, ◌∙◌, arith, length-map, Op, take-append_seam, nil_from_length, slice_get-get_or, IfOk, drop-append_seam, slice_get_past, named_by, DoesJust, spills_of, snippet_on, CodeDoes, code_at, words_in, codes_of}
use borrow.Author.Count.{below_more}
use Rattle.std.proofs.Math.ListN.{get_or-eq_default}
use Rattle.v8_decode.specs.declared.Part.{Part}
use Rattle.snippet_code.specs.Laws.{CanExpand}
use Rattle.snippet_code.proofs.Lengths.{costs_hold}
use Rattle.snippet_code.proofs.WholeCode.{snippet_code_runs}
use Rattle.image_code.specs.declared.expansion.CodeSpan.{CodeSpan}
use Rattle.image_code.specs.declared.expansion.Codes.{Codes}
use Rattle.image_code.proofs.Positions.{get_first, get_past}

pub if_both : {A E : Type 0} (P Q R : A → Type 0) (r : Result A E) → ((a : A) → P a → Q a → R a) → IfOk r P → IfOk r Q
    → IfOk r R
if_both P Q R (Ok a) both p q = both a p q
if_both P Q R (Err e) both p q = tt

module _ (base : ℕ) (dead : ℕ → List Part) (snips : List (List Op)) where
  codes_short : (edge : ℕ) → length (codes_of base dead snips edge) ≤ 22 * length (snippet_on snips edge)
  unfolding codes_of
  codes_short edge =
      let cost = costs_hold base (dead edge) (named_by (snippet_on snips edge)) (snippet_on snips edge) in
      simp length-map (omega (arith, cost.0, cost.1))

  pub code_does : (edge : ℕ) (words : List ℕ) → length (snippet_on snips edge) ≤ 8
      → words ≡ codes_of base dead snips edge → DoesJust words base (dead edge)
      (spills_of (dead edge) (named_by (snippet_on snips edge)) (snippet_on snips edge))
      (snippet_on snips edge) → CodeDoes base dead snips edge
  code_does edge words few same just = record { few = few; short = codes_short edge; does = rw same at just }

  -- where there are no operations, there is no word
  pub none_is_no_code : (edge : ℕ) → snippet_on snips edge ≡ [] → codes_of base dead snips edge ≡ []
  none_is_no_code edge none =
      let count : length (snippet_on snips edge) ≡ 0 = ap length none in
      nil_from_length (codes_of base dead snips edge) (omega (arith, codes_short edge, count))

  -- so it is behind the last edge
  pub no_code : (edge : ℕ) → length snips ≤ edge → codes_of base dead snips edge ≡ []
  no_code edge past = none_is_no_code edge (get_or-eq_default snips [] past)

  module _ (aligned : base % 4 ≡ 0) where
    -- no operations are done by no code
    pub none_does : (edge : ℕ) → snippet_on snips edge ≡ [] → CodeDoes base dead snips edge
    unfolding codes_of
    none_does edge none =
        let can : CanExpand base (snippet_on snips edge) = rw none (record {
          aligned = aligned;
          few = omega arith;
          are_ops = λ k d l. absurd (omega arith);
          low = λ k d l. absurd (omega arith);
        }) in
        code_does edge (codes_of base dead snips edge) can.few refl
        (snippet_code_runs base (dead edge) (snippet_on snips edge) can).1

    -- behind the last edge there are none
    pub beyond : (edge : ℕ) → length snips ≤ edge → CodeDoes base dead snips edge
    beyond edge past = none_does edge (get_or-eq_default snips [] past)

  -- one edge more
  pub does_more : (number : ℕ) → ((edge : ℕ) → edge < number → CodeDoes base dead snips edge)
      → CodeDoes base dead snips number → (edge : ℕ) → edge < number + 1 → CodeDoes base dead snips edge
  does_more number before this = below_more (CodeDoes base dead snips) number before this

-- ---- the words of all edges

-- where the words of one edge more come to stand behind others
abbrev pub behind : List ℕ → List ℕ → CodeSpan
behind words code = record { start = length words; count = length code }

-- The words of so many edges are those that a function says, also where more words stand behind them.
abbrev pub AreCodes : (ℕ → List ℕ) → List ℕ → List CodeSpan → ℕ → Type 0
AreCodes f words spans n =
    (more : List ℕ) (edge : ℕ) → edge < n → words_in (words ++ more) (slice_get spans edge) ≡ f edge

-- one edge more
pub codes_more : (f : ℕ → List ℕ) (words code : List ℕ) (spans : List CodeSpan) (n : ℕ) → length spans ≡ n
    → code ≡ f n → AreCodes f words spans n → AreCodes f (words ++ code) (spans ++ behind words code ∷ []) (n + 1)
codes_more f words code spans n long made held more =
    below_more (λ edge. words_in ((words ++ code) ++ more) (slice_get (spans ++ behind words code ∷ []) edge) ≡ f edge) n
    (λ edge l.
    let at = slice_get-get_or spans edge (behind words code) (omega (arith, l, long)) in
    rw (append_assoc words code more, get_first spans (behind words code ∷ []) edge _ at ∙ sym at)
    (held (code ++ more) edge l))
    (rw (
      get_past spans (behind words code ∷ []) n 0 _ (omega (arith, long)) refl,
      append_assoc words code more,
      drop-append_seam words (code ++ more),
      take-append_seam code more,
    ) made)

-- the words of edges, with nothing behind them
pub codes_are : (f : ℕ → List ℕ) (codes : Codes) (n edge : ℕ) → AreCodes f codes.words.items codes.spans.items n
    → edge < n → code_at codes edge ≡ f edge
codes_are f codes n edge held l = rw (append-nil codes.words.items) at (held [] edge l)

pub code_past : (codes : Codes) (edge : ℕ) → length codes.spans.items ≤ edge → code_at codes edge ≡ []
code_past codes edge l = ap (words_in codes.words.items) (slice_get_past codes.spans.items edge l)
