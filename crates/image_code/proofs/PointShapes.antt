-- The kinds of points, each with the piece that stands there, and where control goes on from it.
use Rattle.image_code.proofs.Common.{◌≡◌, Some, ℕ, suc, Option, ◌%◌, ◌^◌, ◌<◌, List, ◌⊎◌, [], ◌∷◌, None, slice_get, slice_index, ◌≢◌, ◌+◌, length, false, word_at, PieceNo, Addr, decode_of, Node, State, is_transfer, Point, point_of, node_after, node_at, visit_of, ◌-◌, true, if◌then◌else◌, ℤ, Taken, NoSlot, same_kind, instr_at, way_of, holds_of, Op2, op2_in_range, op2_fits, words_of, IsApart, ◌≤◌, table_word, choice_at, found_in, X, NoteRange, range_at, save_load_address, Exit, Head, bare, head_items, marked, find_words, HasNoCases, IsBeside, nop_word, operations_on, is_out, IsOffPages, AreCaseTables, moved}
use Rattle.v8_decode.specs.declared.Instr.TheVariants as i
use Rattle.cfg_blocks.specs.declared.EdgeKind.TheVariants as kinds
use Rattle.image_code.specs.declared.shape.Exit.TheVariants as exits
use Rattle.image_code.specs.declared.shape.Head.TheVariants as heads
use Rattle.image_code.specs.Simulates.{EditSetup, number_in, at_point, does_at, gone_at, graph_in, word_of, CaseTable, IsAtWord, Chooses, MatchesIn}
use Rattle.image_code.proofs.Points.{Site, entered_at, visited_at, AtVisitIn}

abbrev pub visits_it : EditSetup → Node → Point → State → Type 0
visits_it g node x t = (visit_of g.notes t ≡ Some x.pc) × (node_at g.notes t.pc ≡ Some (number_in g node))

-- where control enters the piece of the point to which the original goes on
abbrev pub next_entry : Site → Node → Point → State → ℕ
next_entry site node x t =
    let v = does_at site.g x t in
    entered_at site (node_after (graph_in site.g) node (gone_at site.g node x v)) (point_of v)

-- and at which word of the text that goes on, if at any
abbrev pub word_ahead : EditSetup → Point → State → Option ℕ
word_ahead g x t = word_at g.text (does_at g x t).pc

-- an address to which a long jump can lead
abbrev pub IsJumpTarget : ℕ → Type 0
IsJumpTarget to = (to < 2 ^ 32) × (to % 4 ≡ 0)

-- A piece's exit leads to an address: the next piece begins there, or the one that it names, or it leaves to that address
-- itself, where the original goes on at no word of the text.
abbrev pub Reaches : Site → ℕ → Exit → Option ℕ → ℕ → Type 0
Reaches site k exits.Behind next to = (suc k < length site.l.list) × (slice_index site.p.at (suc k) ≡ to)
Reaches site k (exits.Piece piece) next to = slice_index site.p.at piece.0 ≡ to
Reaches site k (exits.Far address) next to = (next ≡ None) × IsJumpTarget to × (address.0 ≡ to)
Reaches site k _ next to = ⊥

-- Control that comes to a piece goes on to an address: the piece stands there, or it has no Mark, and leads there behind
-- the snippets on these edges.
abbrev pub LeadsTo : Site → PieceNo → List ℕ → Option ℕ → ℕ → Type 0
LeadsTo site piece edges next to =
    ((edges ≡ []) × (slice_index site.p.at piece.0 ≡ to))
    ⊎ ((exit : Exit) × (slice_get site.shapes piece.0 ≡ Some (bare edges exit)) × Reaches site piece.0 exit next to)

-- a piece leads to where the original goes on
abbrev pub LeadsNext : Site → PieceNo → Node → Point → State → Type 0
LeadsNext site piece node x t =
    LeadsTo site piece (gone_at site.g node x (does_at site.g x t)) (word_ahead site.g x t) (next_entry site node x t)

-- A point's piece begins with the Mark of its instruction. A head stands in that, by the address and the word that the
-- original has there; behind it come the snippets on some edges, and then an exit.
pub record IsMarked (site : Site) (node : Node) (x : Point) (head : Addr → ℕ → Head) (edges : List ℕ) (exit : Exit)
    : Type 0 where
  pub piece : ℕ
  pub here : visited_at site node x ≡ slice_index site.p.at piece
  pub address : Addr
  pub original : address.0 ≡ x.pc
  pub word : ℕ
  pub is_word : word_of site.g.text x.pc ≡ Some word
  pub shape : slice_get site.shapes piece
      ≡ Some (marked (record { address = address; node = number_in site.g node }) (head address word) edges exit)

-- the word itself, which is no transfer, in its Mark
pub record IsMarkedWord (site : Site) (node : Node) (x : Point) (edges : List ℕ) (exit : Exit) : Type 0 where
  pub mark : IsMarked site node x (λ _ word. heads.Word word) edges exit
  pub open mark use {piece, here, address, original, word, is_word, shape}
  pub straight : is_transfer (decode_of word) ≡ false

pub record IsPlain (site : Site) (node : Node) (x : Point) (t : State) : Type 0 where
  pub edges : List ℕ
  pub exit : Exit
  pub mark : IsMarkedWord site node x edges exit
  pub open mark use {mark.{piece, address, word, is_word, shape}}
  -- where the walk goes on, there the piece leads; without an edge it falls to the next piece, or leads out of the text
  pub leads : (does_at site.g x t).ending ≡ None
      → (gone_at site.g node x (does_at site.g x t) ≡ edges)
      × (Reaches site piece exit (word_ahead site.g x t) (next_entry site node x t)
      × (word_ahead site.g x t ≢ None → edges ≡ [] → exit ≡ exits.Behind))

-- the machine doesn't come to a jump's slot
abbrev pub IsNoJumpsSlot : EditSetup → State → Type 0
IsNoJumpsSlot g v =
    v.slot ≡ Taken → same_kind (way_of (instr_at g.text (v.pc - 4)) v.slot) kinds.Out ≡ true → ⊥

-- a branch outside a slot goes on somewhere, with all else as it was
pub record IsBranching (site : Site) (x : Point) (t : State) (word : ℕ) : Type 0 where
  pub transfer : is_transfer (decode_of word) ≡ true
  pub moves : let u = does_at site.g x t in u ≡ moved u.pc u.npc u.slot (at_point x t)
  pub never : IsNoJumpsSlot site.g (does_at site.g x t)

pub record IsConditionalBranch (site : Site) (node : Node) (x : Point) (t : State) : Type 0 where
  pub cond : ℕ
  pub small : cond < 16
  pub taken : PieceNo
  pub untaken : PieceNo
  pub mark : IsMarked site node x (λ _ _. heads.Branch cond taken) [] (exits.Piece untaken)
  pub open mark use {piece, here, address, original, word, is_word, shape}
  pub goes : IsBranching site x t word
  pub leads : LeadsNext site (if holds_of cond t.codes then taken else untaken) node x t

-- a branch that goes one way
pub record IsUnconditionalBranch (site : Site) (node : Node) (x : Point) (t : State) : Type 0 where
  pub way : PieceNo
  pub mark : IsMarked site node x (λ _ _. heads.Word nop_word) [] (exits.Piece way)
  pub open mark use {piece, here, address, original, word, is_word, shape}
  pub goes : IsBranching site x t word
  pub leads : LeadsNext site way node x t

pub record IsCall (site : Site) (node : Node) (x : Point) (t : State) : Type 0 where
  pub none : x.slot ≡ NoSlot
  pub low : x.pc < 2 ^ 32
  pub disp : ℤ
  pub way : PieceNo
  pub mark : IsMarked site node x (λ _ _. heads.Call) [] (exits.Piece way)
  pub open mark use {piece, here, address, original, word, is_word, shape}
  pub says : decode_of word ≡ i.Call disp
  pub leads : LeadsNext site way node x t
  pub never : IsNoJumpsSlot site.g (does_at site.g x t)

-- outside a slot
pub record IsOutside (x : Point) : Type 0 where
  pub none : x.slot ≡ NoSlot
  pub next : x.npc ≡ (x.pc + 4) % 2 ^ 32
  pub low : x.pc < 2 ^ 32

-- a JMPL, by two registers that it doesn't name
pub record IsJmpl (rd rs1 : ℕ) (op2 : Op2) : Type 0 where
  pub scratch : ℕ
  pub apart : IsApart scratch rd rs1 op2
  pub second : ℕ
  pub other : IsApart second rd rs1 op2
  pub differ : scratch ≢ second
  pub fits : op2_fits op2 ≡ true
  pub in_range : op2_in_range op2 ≡ true

pub record IsJump (site : Site) (node : Node) (x : Point) (t : State) : Type 0 where
  pub outside : IsOutside x
  pub open outside use {none, next, low}
  pub rd : ℕ
  pub rs1 : ℕ
  pub op2 : Op2
  pub jmpl : IsJmpl rd rs1 op2
  pub open jmpl use {scratch, apart, second, other, differ, fits, in_range}
  pub way : PieceNo
  pub mark : IsMarked site node x
      (λ _ _. heads.LookUp (words_of (find_words scratch second rs1 op2 site.f.halves.base)) rd) [] (exits.Piece way)
  pub open mark use {piece, here, address, original, word, is_word, shape}
  pub says : decode_of word ≡ i.Jmpl rd rs1 op2
  pub leads : (does_at site.g x t).ending ≡ None → LeadsNext site way node x t

-- the jump of an open switch
pub record IsSwitchJump (site : Site) (node : Node) (x : Point) (t : State) : Type 0 where
  pub outside : IsOutside x
  pub open outside use {none, next, low}
  pub cased : HasNoCases site.g node → ⊥
  pub rd : ℕ
  pub register : rd < 32
  pub rs1 : ℕ
  pub op2 : Op2
  pub distance : ℕ
  pub near : distance < 2 ^ 32
  pub mark : IsMarked site node x (λ _ _. heads.SwitchJump rd distance) [] exits.Behind
  pub open mark use {piece, here, address, original, word, is_word, shape}
  pub says : decode_of word ≡ i.Jmpl rd rs1 op2
  -- the word that has the piece's address
  pub aligned : choice_at distance t % 4 ≡ 0
  pub from : site.f.cases.base ≤ choice_at distance t
  pub to : choice_at distance t + 4 ≤ site.f.cases.base + length site.f.cases.bytes
  pub below : choice_at distance t + 4 ≤ 2 ^ 31
  pub way : ℕ
  pub has : table_word site.f.cases (choice_at distance t) ≡ slice_index site.p.at way
  -- the jump goes on, into its slot, which stands at that piece
  pub live : (does_at site.g x t).ending ≡ None
  pub nothing : gone_at site.g node x (does_at site.g x t) ≡ []
  pub leads : slice_index site.p.at way ≡ next_entry site node x t

-- a transfer in a delay slot
pub record IsCouple (site : Site) (node : Node) (x : Point) : Type 0 where
  pub slot : x.slot ≢ NoSlot
  pub mark : IsMarked site node x (λ _ _. heads.Couple) [] exits.Behind
  pub open mark use {piece, here, address, original, word, is_word, shape}
  pub transfer : is_transfer (decode_of word) ≡ true

-- What the table has for the target of a JMPL: the piece of a landing, which leads to the next visit through the
-- snippets of some edges; where these have no operation it may be the piece of that visit itself. Outside the text it is
-- the foreign piece.
abbrev pub Lands : Site → List ℕ → ℕ → ℕ → Type 0
Lands site edges target visit =
    (piece : PieceNo) × (piece.0 < length site.l.list) × (found_in site.f.halves target ≡ slice_index site.p.at piece.0)
    × (LeadsTo site piece edges (word_at site.g.text target) visit
    ⊎ (((operations_on site.g.snips edges ≡ 0) × (slice_index site.p.at piece.0 ≡ visit))
    ⊎ ((edges ≡ []) × (slice_get site.shapes piece.0 ≡ Some (bare [] exits.Foreign))
    × (word_at site.g.text target ≡ None))))

pub record IsJumpsSlot (site : Site) (node : Node) (x : Point) (t : State) : Type 0 where
  pub slot : x.slot ≡ Taken
  pub out : same_kind (way_of (instr_at site.g.text (x.pc - 4)) x.slot) kinds.Out ≡ true
  pub caseless : HasNoCases site.g node
  -- the jump's edge, whose snippet runs before the jump, and then the landing's, whose runs there
  pub edge : ℕ
  pub outward : is_out (slice_get (graph_in site.g).edges edge) ≡ true
  pub landing : List ℕ
  pub completes : (does_at site.g x t).ending ≡ None → gone_at site.g node x (does_at site.g x t) ≡ edge ∷ landing
  pub mark : IsMarkedWord site node x (edge ∷ []) exits.Found
  pub open mark use {straight, mark.{piece, address, word, is_word, shape}}
  -- where the walk goes on, there the table leads
  pub lands : (does_at site.g x t).ending ≡ None → Lands site landing x.npc (next_entry site node x t)

-- outside a slot, at an address of no word: the written file is there too
pub record IsForeign (g : EditSetup) (node : Node) (x : Point) : Type 0 where
  pub slot : x.slot ≡ NoSlot
  pub none : word_at g.text x.pc ≡ None
  pub beyond : node ≡ X
  pub apart : IsOffPages g x

-- In a slot behind the text, whose place is where the table begins.
pub record IsOff (site : Site) (node : Node) (x : Point) : Type 0 where
  pub slot : x.slot ≢ NoSlot
  pub none : word_at site.g.text x.pc ≡ None
  pub range : NoteRange
  pub noted : range_at site.g.notes site.f.table.base ≡ Some range
  pub lo : range.lo ≡ site.f.table.base
  pub address : range.address ≡ x.pc
  pub number : range.node ≡ number_in site.g node
  pub beside : IsBeside site.base site.p.code site.f.table.base

-- before the load of an open switch a piece that keeps the load's address, and behind which the visit stands
pub record IsSaving (site : Site) (node : Node) (x : Point) (o : CaseTable) : Type 0 where
  pub piece : ℕ
  pub here : entered_at site node x ≡ slice_index site.p.at piece
  pub shape : slice_get site.shapes piece ≡ Some (bare [] (exits.Saved (words_of (save_load_address o.rs1 o.op2))))
  pub behind : site.place piece 3 ≡ visited_at site node x

pub data IsEntered (site : Site) (node : Node) (x : Point) : Type 0 where
  at_once : entered_at site node x ≡ visited_at site node x
      → ((k : ℕ) (o : CaseTable) → slice_get site.g.opens k ≡ Some o → IsAtWord site.g o node x o.load → ⊥)
      → IsEntered site node x
  saving : (k : ℕ) (o : CaseTable) → slice_get site.g.opens k ≡ Some o → IsAtWord site.g o node x o.load
      → IsSaving site node x o → IsEntered site node x

-- the piece of a point begins with its Mark, in which some word stands
pub record IsHead (site : Site) (node : Node) (x : Point) : Type 0 where
  pub head : Head
  pub edges : List ℕ
  pub exit : Exit
  pub mark : IsMarked site node x (λ _ _. head) edges exit
  pub open mark use {piece, here, address, original, shape}
  pub some : 0 < length (head_items address head)

-- the shape of a point's piece, or the point lies outside the text
pub data IsCase (site : Site) (node : Node) (x : Point) (t : State) : Type 0 where
  plain : IsPlain site node x t → IsCase site node x t
  couple : IsCouple site node x → IsCase site node x t
  conditional : IsConditionalBranch site node x t → IsCase site node x t
  unconditional : IsUnconditionalBranch site node x t → IsCase site node x t
  call : IsCall site node x t → IsCase site node x t
  jump : IsJump site node x t → IsCase site node x t
  landing : IsJumpsSlot site node x t → IsCase site node x t
  choice : IsSwitchJump site node x t → IsCase site node x t
  foreign : IsForeign site.g node x → IsCase site node x t
  off : IsOff site node x → IsCase site node x t

-- where a point is visited
pub data IsVisited (site : Site) (node : Node) (x : Point) : Type 0 where
  head : IsHead site node x → IsVisited site node x
  outside : IsForeign site.g node x → IsVisited site node x
  beyond : IsOff site node x → IsVisited site node x

-- each point outside the pages that the walk's node matches has a place, and is one of the cases
pub record IsImaged (site : Site) : Type 0 where
  pub visits : (node : Node) (x : Point) → MatchesIn site.g node x → IsOffPages site.g x → IsVisited site node x
  pub cases : (node : Node) (x : Point) (t : State) → MatchesIn site.g node x → IsOffPages site.g x → AtVisitIn site node x t
      → Chooses site.g node x t (does_at site.g x t) → IsCase site node x t
  -- control enters each where it is visited, but for the loads of open switches
  pub opens : AreCaseTables site.g
  pub enters : (node : Node) (x : Point) → IsEntered site node x
