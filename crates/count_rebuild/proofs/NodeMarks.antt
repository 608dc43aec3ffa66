-- Marks of numbers, one more or many.
use Rattle.count_rebuild.proofs.Common.{◌≡◌, ℕ, ◌+◌, ◌*◌, ◌<◌, Bool, true, false, ◌||◌, List, ◌++◌, length, map, nat_le, get_or, set, take, drop, ap, sym, ◌∙◌, arith, ◌==◌, list_any, range_with_len, append-nil, drop_all, length-map, take_all, take_more, list_any-append, common_steps, or-false, or_assoc, marked, edge_seen, notes_seen, range_seen, AreNodes, ends_at, lies_at, any_map}
use Rattle.std.proofs.lemmas.List.{get_or-map}
use Rattle.std.proofs.lemmas.List.FromFn.{get_or-range_with_len, length-range_with_len}
use Rattle.std.proofs.lemmas.Bool.Decides.{nat_tests}
use Rattle.notes.specs.declared.note.Notes as declared_notes

pub marked_more : (marks : List Bool) (number : ℕ) → number < length marks → (node : ℕ)
    → marked (set marks number true) node ≡ (marked marks node || (number == node))
marked_more marks number l node = grind (arith, common_steps, nat_tests)

-- one more of a list, which passes by one test or another
pub any_more : {X : Type 0} (p : X → Bool) (xs : List X) (i : ℕ) (d : X) → i < length xs → (first : Bool)
    → ((first || list_any p (take i xs)) || p (get_or xs i d)) ≡ (first || list_any p (take (i + 1) xs))
any_more p xs i d l first = simp (take_more xs i d l, list_any-append, or-false, or_assoc)

-- ---- all of them

-- a whole slice is written back
pub written : (new old : List Bool) (len : ℕ) → length new ≡ len → length old ≡ len
    → take len (new ++ drop (length new) old) ≡ new
written new old len one two =
    rw (drop_all (length new) old (omega (arith, one, two)), append-nil) (take_all len new (omega (arith, one)))

module _ (n : declared_notes.Notes) (first edges all : List Bool)
    (blocks : first ≡ map (λ number. nat_le number (length n.blocks.items)) (range_with_len 0 (2 * length n.blocks.items + 1)))
    (edges_len : length edges ≡ length first)
    (edges_are : (node : ℕ) → node < length first → marked edges node
    ≡ (marked first node || list_any (λ edge. ends_at node (edge_seen edge)) n.edges.items))
    (all_len : length all ≡ length edges)
    (all_are : (node : ℕ) → node < length edges → marked all node
    ≡ (marked edges node || list_any (λ range. lies_at node (range_seen range)) n.ranges.items)) where
  abbrev count : ℕ
  count = 2 * length n.blocks.items + 1

  first_len : length first ≡ count
  first_len = ap length blocks ∙ length-map (range_with_len 0 count) _ ∙ length-range_with_len 0 count

  first_is : (node : ℕ) → node < count → marked first node ≡ nat_le node (length n.blocks.items)
  first_is node l =
      let same : 0 + node ≡ node = omega arith in
      ap (λ (marks : List Bool). marked marks node) blocks
      ∙ get_or-map (λ number. nat_le number (length n.blocks.items)) (range_with_len 0 count) node 0 false
      (omega (arith, l, length-range_with_len 0 count))
      ∙ ap (λ number. nat_le number (length n.blocks.items)) (get_or-range_with_len 0 count node 0 l ∙ same)

  pub nodes_are : AreNodes (notes_seen n) all
  nodes_are = record {
    len = all_len ∙ edges_len ∙ first_len;
    are = λ node l.
        let inside : node < length edges = omega (arith, l, all_len) in
        let before : node < length first = omega (arith, inside, edges_len) in
        all_are node inside
        ∙ ap (λ (x : Bool). x || list_any (λ range. lies_at node (range_seen range)) n.ranges.items)
        (edges_are node before
        ∙ ap (λ (x : Bool). x || list_any (λ edge. ends_at node (edge_seen edge)) n.edges.items)
        (first_is node (omega (arith, before, first_len)))
        ∙ ap (λ (x : Bool). nat_le node (length n.blocks.items) || x)
        (sym (any_map (ends_at node) edge_seen n.edges.items)))
        ∙ ap (λ (x : Bool). (nat_le node (length n.blocks.items) || list_any (ends_at node) (map edge_seen n.edges.items)) || x)
        (sym (any_map (lies_at node) range_seen n.ranges.items));
  }
