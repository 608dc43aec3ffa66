-- From one visit to the next: what the notes say, and what leaves the memory of a written file as it was: its code, its
-- tables and the cells, and what the snippets of some edges make of these.
use Rattle.image_code.proofs.Common.{◌≡◌, ℕ, ◌+◌, ◌^◌, ◌<◌, ◌≤◌, ◌⊎◌, inl, inr, true, List, [], ◌∷◌, ◌++◌, refl, ap, ◌∙◌, arith, Instr, Memory, AllApart, State, register_of, act, judged_by, pages_of, IsFirstWord, IsAmongWords, page_word, Stores, store_word, memory_word, stores_there, words_stay, Op, words_at, IsPageWord, AllAt, CanStore, store_all, other_word_stored, cell_at, IsOurs, still_stored, MayStore, cells_in, operations_on, snippet_on, updates, Option, Some, None, NoteRange, range_at, in_pages, Ending, NoSlot, run, StateItem, IsSameAt, IsValid, lived_to, Point, Node, Leads, CanRun, each-weaker, EditSetup, IsOnWay, gone_at, HasImages, false, length, sym, w32, code_of, fetch_from, IsSameOutside, step_of, fetch_of, to_be_bytes, ours_are_stored, ours_stay, region_of_word, there_written, other_loaded, TableAt}
use Rattle.snippet_code.proofs.Listed.{listed_same}
use Rattle.image_code.proofs.Points.{Site}
pub use Rattle.layout.proofs.Going.{item_size, piece_size as item_below}
use Rattle.v8_step.proofs.Executable.{code_of-run}
use Rattle.image_code.specs.Images.{HasImages, HasTable, IsTableIn}

-- ---- small things

pub stores_weaker : (May Might : ℕ → Type 0) (m n : Memory) → ((z : ℕ) → May z → Might z) → Stores May m n
    → Stores Might m n
stores_weaker May Might m n f h =
    record { writes = h.writes; each = each-weaker May Might f h.writes h.each; result = h.result }

pub same_at : (item : StateItem) (s t : State) → s.registers ≡ t.registers → s.codes ≡ t.codes → s.y ≡ t.y
    → IsSameAt item s t
same_at item s t a b c = grind arith

-- a step that ends the run completes no edge
pub ended_none : (g : EditSetup) (node : Node) (x : Point) (v : State) (d : Ending) → v.ending ≡ Some d
    → gone_at g node x v ≡ []
ended_none g node x v d e = rw e

pub first_above : (z : ℕ) → IsFirstWord z → 2 ^ 31 ≤ z
first_above z e = omega (arith, e)

pub page_above : (z : ℕ) → IsPageWord z → 2 ^ 31 ≤ z
page_above z e = grind (arith, e)

-- ---- a word that nothing is stored in

each_beside : (May : ℕ → Type 0) (a : ℕ) → ((z : ℕ) → May z → (a + 4 ≤ z) ⊎ (z + 4 ≤ a)) → (ws : List (ℕ × ℕ))
    (m : Memory) → AllAt May ws → CanStore m a → memory_word (store_all ws m) a ≡ memory_word m a
each_beside May a apart [] m each can = refl
each_beside May a apart (w ∷ ws) m each can =
    each_beside May a apart ws (store_word m w.0 w.1) each.1 (still_stored m a w.0 w.1 can)
    ∙ other_word_stored m a w.0 w.1 can (apart w.0 each.0)

pub word_kept : (May : ℕ → Type 0) (a : ℕ) → ((z : ℕ) → May z → (a + 4 ≤ z) ⊎ (z + 4 ≤ a)) → (m n : Memory)
    → Stores May m n → CanStore m a → memory_word n a ≡ memory_word m a
word_kept May a apart m n stores can =
    ap (λ (z : Memory). memory_word z a) stores.result ∙ each_beside May a apart stores.writes m stores.each can

-- ---- what the snippets of some edges make of cells

pub updates_same : (snips : List (List Op)) (edges cells : List ℕ) (s t : State) → register_of s ≡ register_of t
    → updates snips edges cells s ≡ updates snips edges cells t
updates_same snips [] cells s t same = refl
updates_same snips (edge ∷ edges) cells s t same = rw same (updates_same snips edges _ s t same)

pub updates_then : (snips : List (List Op)) (first others cells : List ℕ) (s : State)
    → updates snips (first ++ others) cells s ≡ updates snips others (updates snips first cells s) s
updates_then snips [] others cells s = refl
updates_then snips (edge ∷ edges) others cells s = updates_then snips edges others _ s

pub operations_then : (snips : List (List Op)) (first others : List ℕ)
    → operations_on snips (first ++ others) ≡ operations_on snips first + operations_on snips others
operations_then snips [] others = omega arith
operations_then snips (edge ∷ edges) others = omega (arith, operations_then snips edges others)

pub fetch_is : (m : Memory) (a : ℕ) → fetch_of m a ≡ fetch_from (code_of m) a
unfolding fetch_of
fetch_is m a = refl

-- ---- the table, where words are stored beside it

table_beside : (table : TableAt) (m : Memory) (b v : ℕ) → (b + 4 ≤ table.base) ⊎ (table.base + length table.bytes ≤ b)
    → HasTable table m → HasTable table (store_word m b v)
unfolding store_word
table_beside table m b v apart has a from to aligned =
    let old = has a from to aligned in
    let is = old.0 in (
      there_written a b false (to_be_bytes w32 v) m is,
      other_loaded m a b v
          (record { region = is.region; at = region_of_word a false m is ∙ is.at; readable = is.readable }) is.whole
          (elim apart [ inl below ↦ inr (omega arith) | inr above ↦ inl (omega arith) ]) ∙ old.1,
    )

module _ (g : EditSetup) (own : List ℕ) (table : TableAt) (framed : IsTableIn g own table) where
  table_after_all : (ws : List (ℕ × ℕ)) (m : Memory) → AllAt (IsAmongWords own) ws → HasTable table m
      → HasTable table (store_all ws m)
  table_after_all [] m each has = has
  table_after_all (w ∷ ws) m each has =
      table_after_all ws (store_word m w.0 w.1) each.1 (table_beside table m w.0 w.1 (framed.apart w.0 each.0) has)

  table_stored : (m n : Memory) → Stores (IsAmongWords own) m n → HasTable table m → HasTable table n
  table_stored m n stores has = rw stores.result (table_after_all stores.writes m stores.each has)

  table_stays : (s : State) (x : Instr) → AllApart (pages_of g.notes) (judged_by s x) → HasTable table s.memory
      → HasTable table (act s x).memory
  table_stays s x apart has a from to aligned =
      let old = has a from to aligned in
      let new = words_stay (pages_of g.notes) a false s x (framed.within a from to) apart old.0 in
      (new.0, new.1 ∙ old.1)

module _ (site : Site) where
  open site use {g, base, p, f, placed}

  -- what the notes say of an address
  abbrev pub IsNoted : Option NoteRange → ℕ → Type 0
  IsNoted range a = (range_at g.notes a ≡ range) × (in_pages g.notes a ≡ true)

  pub quiet_of : (t after : State) (count : ℕ) (P : State → Type 0) → Leads P t after count → after.ending ≡ None
      → ((u : State) → u.ending ≡ None → P u → IsOnWay g t u) → (j : ℕ) → 0 < j → j < count → IsOnWay g t (run t j)
  quiet_of t after count P way live on j a b =
      let before = lived_to t j count (omega arith) (ap (λ (z : State). z.ending) way.steps ∙ live) in
      on (run t j) before (way.during j a b)

  -- what it takes to run on
  pub record IsFit (a : State) : Type 0 where
    pub valid : IsValid a
    pub has : HasImages g base p f a.memory
    pub runs : CanRun base p.code a

  pub fits : (a : State) → IsValid a → a.ending ≡ None → a.npc ≡ a.pc + 4 → a.slot ≡ NoSlot
      → HasImages g base p f a.memory → IsFit a
  fits a valid live npc slot has =
      search (stores_there (page_word 0) a.memory (has.ours.words (page_word 0) placed.frame.stored.first))

  pub cell_low : (cell : ℕ) → cell < g.notes.cells → cell_at g.notes.base cell + 4 ≤ 2 ^ 31
  cell_low cell within = let low = placed.cells.low in omega (arith, low, within)

  pub cell_stored : (m : Memory) → IsOurs (pages_of g.notes) f.stored m → (cell : ℕ) → cell < g.notes.cells
      → CanStore m (cell_at g.notes.base cell)
  cell_stored m ours cell within =
      stores_there (cell_at g.notes.base cell) m (ours.words (cell_at g.notes.base cell) (placed.cells.stored cell within))

  -- the words of the page can be stored in
  pub page_there : (m : Memory) → IsOurs (pages_of g.notes) f.stored m → (n : ℕ) → n < 8 → CanStore m (page_word n)
  page_there m ours n few =
      stores_there (page_word n) m (ours.words (page_word n) (placed.frame.page n (omega (arith, few))))

  -- they are the editor's
  pub own_stored : (m n : Memory) → Stores IsPageWord m n → Stores (IsAmongWords f.stored) m n
  own_stored m n stores = stores_weaker IsPageWord (IsAmongWords f.stored) m n page_own stores
    where
      page_own : (z : ℕ) → IsPageWord z → IsAmongWords f.stored z
      page_own z (inl e) = rw e (placed.frame.page 0 (omega arith))
      page_own z (inr (inl e)) = rw e (placed.frame.page 1 (omega arith))
      page_own z (inr (inr (inl e))) = rw e (placed.frame.page 2 (omega arith))
      page_own z (inr (inr (inr (inl e)))) = rw e (placed.frame.page 7 (omega arith))
      page_own z (inr (inr (inr (inr e)))) = absurd e

  -- stores above the cells
  pub cells_above : (May : ℕ → Type 0) → ((z : ℕ) → May z → 2 ^ 31 ≤ z) → (m n : Memory)
      → IsOurs (pages_of g.notes) f.stored m → Stores May m n
      → words_at g.notes.base g.notes.cells n ≡ words_at g.notes.base g.notes.cells m
  cells_above May above m n ours stores =
      listed_same g.notes.base g.notes.cells (memory_word n) (memory_word m) (λ cell within.
      word_kept May (cell_at g.notes.base cell)
      (λ z may. inl (omega (arith, cell_low cell within, above z may))) m n stores (cell_stored m ours cell within))

  -- an instruction that judges no byte of the pages
  module _ (s : State) (x : Instr) (apart : AllApart (pages_of g.notes) (judged_by s x))
      (ours : IsOurs (pages_of g.notes) f.stored s.memory) where
    pub own_stays : (a : ℕ) → IsAmongWords f.stored a → memory_word (act s x).memory a ≡ memory_word s.memory a
    own_stays a own =
        (words_stay (pages_of g.notes) a true s x (placed.frame.stored.within a own) apart (ours.words a own)).1

    pub cells_stay : cells_in g.notes (act s x) ≡ cells_in g.notes s
    cells_stay =
        listed_same g.notes.base g.notes.cells (memory_word (act s x).memory) (memory_word s.memory) (λ cell within.
        own_stays (cell_at g.notes.base cell) (placed.cells.stored cell within))

  -- where a snippet's words may store, the editor may, and they leave words 1 and 7 of the page
  pub may_store : (edge z : ℕ) → MayStore g.notes.base (snippet_on g.snips edge) z → IsAmongWords f.stored z
      × ((page_word 1 + 4 ≤ z) ⊎ (z + 4 ≤ page_word 1)) × ((page_word 7 + 4 ≤ z) ⊎ (z + 4 ≤ page_word 7))
  may_store edge z (inl (cell, named, is)) =
      let within = placed.cells.named edge cell named in
      let low : z + 4 ≤ 2 ^ 31 = omega (arith, cell_low cell within, is) in
      (rw is (placed.cells.stored cell within), inr (omega arith), inr (omega arith))
  may_store edge z (inr (n, few, is)) =
      (rw is (placed.frame.page (n + 2) (omega (arith, few))), inl (omega (arith, few, is)), inr (omega (arith, few, is)))

  -- nothing executable has changed
  same_images : (m n : Memory) → code_of n ≡ code_of m → HasImages g base p f m → IsOurs (pages_of g.notes) f.stored n
      → HasTable f.halves n → HasTable f.cases n → HasImages g base p f n
  same_images m n same has ours table cases = search (same, has.code, has.only)

  -- so many steps that stored the editor's words alone
  pub images_stored : (t after : State) (count : ℕ) → run t count ≡ after
      → Stores (IsAmongWords f.stored) t.memory after.memory
      → HasImages g base p f t.memory → HasImages g base p f after.memory
  images_stored t after count steps stores has =
      same_images t.memory after.memory (ap (λ (z : State). code_of z.memory) (sym steps) ∙ code_of-run t count) has
      (ours_are_stored (pages_of g.notes) f.stored t.memory after.memory has.ours stores).0
      (table_stored g f.stored f.halves placed.frame.table t.memory after.memory stores has.table)
      (table_stored g f.stored f.cases placed.frame.cases t.memory after.memory stores has.cases)

  pub same_stored : (m n : Memory) → HasImages g base p f m → Stores (IsAmongWords f.stored) m n
      → IsSameOutside (pages_of g.notes) m n
  same_stored m n has stores = (ours_are_stored (pages_of g.notes) f.stored m n has.ours stores).1

  -- a step that judges no byte of the pages
  pub images_stay : (t : State) (x : Instr) → step_of t ≡ act t x → AllApart (pages_of g.notes) (judged_by t x)
      → HasImages g base p f t.memory → HasImages g base p f (act t x).memory
  images_stay t x one apart has =
      same_images t.memory (act t x).memory (ap (λ (z : State). code_of z.memory) (sym one) ∙ code_of-run t 1) has
      (ours_stay (pages_of g.notes) f.stored t x placed.frame.stored has.ours apart)
      (table_stays g f.stored f.halves placed.frame.table t x apart has.table)
      (table_stays g f.stored f.cases placed.frame.cases t x apart has.cases)
