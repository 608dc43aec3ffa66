-- What is dead on a way along some edges: only behind the snippet of the last of them, so that no snippet reads a
-- register in which an earlier one left anything else.
use Rattle.image_code.proofs.Common.{arith, get_or, ◌≡◌, ℕ, ◌⊎◌, inl, inr, Bool, ◌&&◌, Option, Some, None, List, [], ◌∷◌, ◌++◌, length, refl, ap, sym, ◌∙◌, if◌then◌else◌, position, option_to_list, and_parts, cond_both, position-Some, slice_get-get_or, word_at, Instr, Memory, IsSameOutside, Slot, NoSlot, State, pages_of, StateItem, IsSameAt, append-nil, EdgeKind, Edge, has_cases, lands, Node, X, Point, WayOut, left_by, point_of, slot_left, same_kind, same_node, hopped, gone, landed, leads_along, unless_ended, completed, left_along, left_at, IsFollowedBy, IsKept, EditSetup, gone_at, graph_in, is_out}
use Rattle.v8_decode.specs.declared.Instr.TheVariants as i
use Rattle.cfg_blocks.specs.declared.EdgeKind.TheVariants as kinds
use Rattle.cfg_normal.specs.declared.Slot.TheVariants.{Nothing}
use Rattle.image_code.proofs.Points.{Site}
use Rattle.image_code.proofs.Cells.{same_at}

-- ---- lists of edges

-- nothing is dead behind any of some edges
abbrev pub NothingDead : EditSetup → List ℕ → Type 0
NothingDead g [] = Unit {0}
NothingDead g (edge ∷ edges) = (g.dead edge ≡ []) × NothingDead g edges

-- something is dead behind the last one at most
abbrev pub LastDead : EditSetup → List ℕ → Type 0
LastDead g [] = Unit {0}
LastDead g (edge ∷ edges) = ((edges ≡ []) ⊎ (g.dead edge ≡ [])) × LastDead g edges

-- so in each part, and the first of two has nothing that is dead, if the other has an edge
pub last_parted : (g : EditSetup) (first others : List ℕ) → LastDead g (first ++ others)
    → LastDead g first × LastDead g others × ((others ≡ []) ⊎ NothingDead g first)
last_parted g [] others d = (tt, d, inr tt)
last_parted g (edge ∷ first) others (here, more) =
    let rest = last_parted g first others more in
    elim here [
      | inl none ↦
          let both : (first ≡ []) × (others ≡ []) = elim first as (λ xs. xs ++ others ≡ [] → (xs ≡ []) × (others ≡ [])) [
            | [] ↦ λ e. (refl, e)
            | x ∷ xs ↦ λ e. absurd (cc)
          ] none in
          ((inl both.0, rest.0), rest.1, inl both.1)
      | inr nothing ↦ ((inr nothing, rest.0), rest.1, elim rest.2 [ inl none ↦ inl none | inr others ↦ inr (nothing, others) ])
    ]

pub nothing_parted : (g : EditSetup) (first others : List ℕ) → NothingDead g (first ++ others)
    → NothingDead g first × NothingDead g others
nothing_parted g [] others d = (tt, d)
nothing_parted g (edge ∷ first) others d = let more = nothing_parted g first others d.1 in ((d.0, more.0), more.1)

kept_parted : (g : EditSetup) (first others : List ℕ) (window : ℕ) (item : StateItem)
    → IsKept g (first ++ others) window item → IsKept g first window item × IsKept g others window item
kept_parted g [] others window item k = (tt, k)
kept_parted g (edge ∷ first) others window item k =
    let more = kept_parted g first others window item k.1 in ((k.0, more.0), more.1)

-- ---- states

-- The same but for what is dead behind one of some edges, for the place and for memory.
pub record IsAlike (g : EditSetup) (edges : List ℕ) (a b : State) : Type 0 where
  pub ending : b.ending ≡ a.ending
  pub window : b.window ≡ a.window
  pub valid : b.valid ≡ a.valid
  pub input : b.input ≡ a.input
  pub registers : length b.registers ≡ length a.registers
  pub items : (item : StateItem) → IsKept g edges a.window item → IsSameAt item a b

-- so is what differs in its place and memory alone
pub alike_same : (g : EditSetup) (edges : List ℕ) (a b : State) (m : Memory) → hopped a 0 m ≡ hopped b 0 m
    → IsAlike g edges a b
alike_same g edges a b m same = record {
  ending = sym (ap (λ (z : State). z.ending) same);
  window = sym (ap (λ (z : State). z.window) same);
  valid = sym (ap (λ (z : State). z.valid) same);
  input = sym (ap (λ (z : State). z.input) same);
  registers = sym (ap (λ (z : State). length z.registers) same);
  items = λ item _. same_at item a b (ap (λ (z : State). z.registers) same) (ap (λ (z : State). z.codes) same)
      (ap (λ (z : State). z.y) same);
}

pub same_then : (item : StateItem) (a b c : State) → IsSameAt item a b → IsSameAt item b c → IsSameAt item a c
same_then item a b c e f = grind arith

pub alike_then : (g : EditSetup) (first others : List ℕ) (a b c : State) → IsAlike g first a b → IsAlike g others b c
    → IsAlike g (first ++ others) a c
alike_then g first others a b c one other =
    let items : (item : StateItem) → IsKept g (first ++ others) a.window item → IsSameAt item a c = λ item kept.
    let both = kept_parted g first others a.window item kept in
    same_then item a b c (one.items item both.0) (other.items item (rw one.window both.1)) in
    search

-- it follows the original's, if memory does
pub followed_alike : (g : EditSetup) (edges : List ℕ) (v after : State)
    → IsSameOutside (pages_of g.notes) v.memory after.memory → IsAlike g edges v after
    → IsFollowedBy (pages_of g.notes) (IsKept g edges v.window) v after
followed_alike g edges v after outside all = search all.items

-- ---- the edges of a step

listed_last : (g : EditSetup) (o : Option ℕ) → LastDead g (option_to_list o)
listed_last g None = tt
listed_last g (Some edge) = (inl refl, tt)

-- the edges of a JMPL have nothing dead
module _ (site : Site) where
  open site use {g, placed}

  landing : (next : ℕ) (o : Option ℕ) → word_at g.text next ≡ o → LastDead g (landed g.text (graph_in g) kinds.Out next)
  landing next None e = rw e tt
  landing next (Some word) e = rw e (listed_last g _)

  of_jump : (node : Node) (next : ℕ) (o : Option ℕ)
      → position (λ (edge : Edge). leads_along None edge && (same_node edge.from node && same_kind edge.kind kinds.Out))
      (graph_in g).edges ≡ o
      → LastDead g (option_to_list o ++ landed g.text (graph_in g) kinds.Out next)
  of_jump node next None e = landing next (word_at g.text next) refl
  of_jump node next (Some edge) e =
      let some : Edge = record { from = X; to = X; kind = kinds.Land; slot = Nothing } in
      let found = position-Some _ (graph_in g).edges edge some e in
      let x : Edge = get_or (graph_in g).edges edge some in
      let own = (and_parts (leads_along None x) (same_node x.from node && same_kind x.kind kinds.Out) found.1).1 in
      let out = (and_parts (same_node x.from node) (same_kind x.kind kinds.Out) own).1 in (
        inr (placed.cells.jumps edge (ap is_out (slice_get-get_or (graph_in g).edges edge some found.0) ∙ out)),
        landing next (word_at g.text next) refl,
      )

  by_kind : (node : Node) (kind : EdgeKind) (next : ℕ) → LastDead g (slot_left g.text (graph_in g) node kind next)
  by_kind node kinds.Out next =
      cond_both (has_cases g.switches node)
      (record { kind = kinds.Case; to = Some (lands (graph_in g) (word_at g.text next)) })
      (record { kind = kinds.Out; to = None })
      (λ (way : WayOut). LastDead g (left_along g.text (graph_in g) node way next))
      (λ _. rw append-nil (listed_last g _)) (λ _. of_jump node next _ refl)
  by_kind node _ next = rw append-nil (listed_last g _)

  if_last : (b : Bool) (o : Option ℕ) → LastDead g (if b then option_to_list o else [])
  if_last b o = cond_both b _ _ (LastDead g) (λ _. listed_last g o) (λ _. tt)

  left_last : (node : Node) (word : ℕ) (instr : Instr) → LastDead g (left_by (graph_in g) node word instr)
  left_last node word (i.Branch cond annul disp) = listed_last g _
  left_last node word _ = if_last _ _

  at_last : (node : Node) (o : Option ℕ) → LastDead g (left_at g.text (graph_in g) node o)
  at_last node None = tt
  at_last node (Some word) = left_last node word _

  completed_last : (node : Node) (before after : Point) (from to : Slot)
      → LastDead g (completed g.text (graph_in g) node before after from to)
  completed_last node before after NoSlot NoSlot = at_last node _
  completed_last node before after from NoSlot = by_kind node _ after.pc
  completed_last node before after _ _ = tt

  -- the edges that a step completes
  pub gone_last : (node : Node) (x : Point) (v : State) → LastDead g (gone_at g node x v)
  gone_last node x v =
      elim v.ending as (λ e. LastDead g (gone g.text (graph_in g) node x (unless_ended e (point_of v)))) [
        | None ↦ completed_last node x (point_of v) x.slot v.slot
        | Some d ↦ tt
      ]
