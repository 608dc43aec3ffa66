-- Which nodes have an edge from a jump's block is kept by marks.
use Rattle.cfg_normal.proofs.Common.{◌≡◌, ℕ, ◌+◌, ◌<◌, ◌≤◌, Bool, true, false, List, [], ◌∷◌, ◌++◌, length, map, refl, ap, sym, ◌∙◌, arith, cond, inl, inr, slice_index, Some, add-one, get_or, take, ◌==◌, All, filter, flat_map, list_any, append-nil, append_assoc, get_or-map, length-map, map-append, take_more, flat_map-append, or-false, filter-append, cases_eq, cases_Bool, eq-eqb, ne_eqb, or_right, Blocks, below, Edge, Node, same_node, case_of, lands_of, once_onto, IsNumbered, landed_once, number_in, seen_mark, unseen_case, Open}
use Rattle.eel_base.specs.declared.numbers.WordNo.{WordNo}
use Rattle.cfg_normal.proofs.TableWords.{any_push}

-- ---- nodes and their numbers

number_one : (count : ℕ) (m n : Node) → IsNumbered count m → IsNumbered count n
    → number_in count m ≡ number_in count n → m ≡ n
number_one count m n h k e = grind arith

pub same_itself : (m : Node) → same_node m m ≡ true
same_itself m = grind arith

not_same : (count : ℕ) (m n : Node) → (number_in count m ≡ number_in count n → ⊥) → same_node m n ≡ false
not_same count m n h = grind arith

-- ---- each node once

with_node : List Node → Node → List Node
with_node seen node = cond (list_any (same_node node) seen) seen (seen ++ node ∷ [])

once_more : (seen nodes : List Node) (node : Node)
    → once_onto seen (nodes ++ node ∷ []) ≡ with_node (once_onto seen nodes) node
unfolding with_node
once_more seen [] node = refl
once_more seen (x ∷ nodes) node = once_more (cond (list_any (same_node x) seen) seen (seen ++ x ∷ [])) nodes node

-- ---- marks

-- just these nodes have the mark, and no mark is above it
pub record AreMarked (count mark : ℕ) (seen : List ℕ) (nodes : List Node) : Type 0 where
  pub each : (node : Node) → IsNumbered count node
      → (slice_index seen (number_in count node) == mark) ≡ list_any (same_node node) nodes
  pub highest : (n : ℕ) → slice_index seen n ≤ mark

module _ (count mark : ℕ) where
  pub none_marked : (seen : List ℕ) → ((n : ℕ) → slice_index seen n < mark) → AreMarked count mark seen []
  none_marked seen low = record {
    each = λ node is. ne_eqb _ mark (λ e. omega (arith, low (number_in count node)));
    highest = λ n. omega (arith, low n);
  }

  module _ (nodes : List Node) (node : Node) (is : IsNumbered count node) (before after : List ℕ)
      (were : AreMarked count mark before nodes)
      (set : (n : ℕ) → slice_index after n ≡ seen_mark (number_in count node) mark n (slice_index before n)) where
    has_itself : list_any (same_node node) (with_node nodes node) ≡ true
    unfolding with_node
    has_itself = elim (cases_Bool (list_any (same_node node) nodes)) [
      | inl t ↦ rw t t
      | inr f ↦ rw f (any_push (same_node node) nodes node ∙ or_right _ _ (same_itself node))
    ]

    has_other : (other : Node) → same_node other node ≡ false
        → list_any (same_node other) (with_node nodes node) ≡ list_any (same_node other) nodes
    unfolding with_node
    has_other other apart = elim (cases_Bool (list_any (same_node node) nodes)) [
      | inl t ↦ rw t refl
      | inr f ↦ rw f (any_push (same_node other) nodes node ∙ rw apart (or-false _))
    ]

    marked_more : AreMarked count mark after (with_node nodes node)
    marked_more = record {
      each = λ other h. elim (cases_eq (number_in count other) (number_in count node)) [
        | inl e ↦
            let one : other ≡ node = number_one count other node h is e in
            rw (set (number_in count other), eq-eqb _ _ e) (eq-eqb mark mark refl
            ∙ sym (ap (λ (x : Node). list_any (same_node x) (with_node nodes node)) one ∙ has_itself))
        | inr apart ↦
            rw (set (number_in count other), ne_eqb _ _ apart)
            (were.each other h ∙ sym (has_other other (not_same count other node apart)))
      ];
      highest = λ n. elim (cases_eq n (number_in count node)) [
        | inl e ↦ rw (set n, eq-eqb _ _ e) (omega arith)
        | inr apart ↦ rw (set n, ne_eqb _ _ apart) (were.highest n)
      ];
    }

cases_more : (b : Blocks) (block : ℕ) (nodes : List Node) (node : Node) (edges : List Edge) (is_seen : Bool)
    → is_seen ≡ list_any (same_node node) nodes
    → (edges ++ map (case_of b block) nodes) ++ unseen_case b block node is_seen
    ≡ edges ++ map (case_of b block) (with_node nodes node)
unfolding with_node
cases_more b block nodes node edges true e = rw (← e) (append-nil _)
cases_more b block nodes node edges false e = rw (← e) (rw (map-append (case_of b block) nodes (node ∷ [])) (append_assoc edges _ _))

-- ---- the loop over targets

landed_more : (b : Blocks) (opens : List Open) (targets : List WordNo) (target : WordNo)
    → landed_once b opens (targets ++ target ∷ [])
    ≡ with_node (landed_once b opens targets) (lands_of b opens (Some target.0))
landed_more b opens targets target =
    simp (map-append, once_more)

module _ (b : Blocks) (opens : List Open) (block : ℕ) (targets : List WordNo) (i : ℕ) (d : WordNo) (l : i < length targets)
    (node : Node) (lands : node ≡ lands_of b opens (Some (get_or targets i d).0)) where
  abbrev so_far : List Node
  so_far = landed_once b opens (take i targets)

  next_is : landed_once b opens (take (i + 1) targets) ≡ with_node so_far node
  next_is =
      rw (take_more targets i d l, landed_more b opens (take i targets), ← lands) refl

  pub edges_next : (before now later : List Edge) (seen : List ℕ)
      → AreMarked (length b.firsts) (block + 1) seen so_far → IsNumbered (length b.firsts) node
      → now ≡ before ++ map (case_of b block) so_far
      → later ≡ now ++ unseen_case b block node (slice_index seen (number_in (length b.firsts) node) == block + 1)
      → later ≡ before ++ map (case_of b block) (landed_once b opens (take (i + 1) targets))
  edges_next before now later seen marks is e f =
      rw (f, e, next_is) (cases_more b block so_far node before _ (marks.each node is))

  pub marks_next : (before after : List ℕ) → IsNumbered (length b.firsts) node
      → AreMarked (length b.firsts) (block + 1) before so_far
      → ((n : ℕ) → slice_index after n
      ≡ seen_mark (number_in (length b.firsts) node) (block + 1) n (slice_index before n))
      → AreMarked (length b.firsts) (block + 1) after (landed_once b opens (take (i + 1) targets))
  marks_next before after is were set =
      rw next_is (marked_more (length b.firsts) (block + 1) so_far node is before after were set)

-- ---- lists of words

pub words_within : (n : ℕ) (words : List WordNo) → All (λ word. word < n) (map (λ w. w.0) words)
    → All (λ (w : WordNo). w.0 < n) words
words_within n words within = λ k d l.
    rw (← get_or-map (λ (w : WordNo). w.0) words k d 0 l)
    (within k 0 (rw (length-map words (λ (w : WordNo). w.0)) l))

-- ---- the loop over copies

pub copies_more : (f : ℕ → List Edge) (p : ℕ → Bool) (edges : List Edge) (n : ℕ) (t : Bool) → p n ≡ t
    → (edges ++ flat_map f (filter p (below n))) ++ cond t (f n) [] ≡ edges ++ flat_map f (filter p (below (n + 1)))
copies_more f p edges n true is = simp (add-one, filter-append, flat_map-append, is, append-nil, append_assoc)
copies_more f p edges n false is = simp (add-one, filter-append, is, append-nil)
