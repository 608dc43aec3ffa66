-- Ways through words in no place: the snippets of some edges, Jumps and long jumps.
use Rattle.image_code.proofs.Common.{StateItem, IsKept, Instr, IsPageWord, StandIn, Fit, words_mean, word_items, word_of, other_word_stored, ◌≡◌, ℕ, zero, suc, ◌+◌, ◌-◌, ◌*◌, ◌^◌, ◌<◌, ◌≤◌, ◌⊎◌, inl, inr, false, Option, Some, None, List, [], ◌∷◌, ◌++◌, length, map, append-nil, add-one, add-zero, zero-add, refl, ap, sym, ◌∙◌, subst, arith, add_assoc, ◌≢◌, slice_get, slice_index, flat_map, cases_lt, length-append, length-map, map-append, append_assoc, slice_get_within, slice_get-map, Addr, PieceNo, Memory, code_of, State, register_of, run, IsValid, run-valid, count_stores, hopped, Leads, IsFirstWord, IsAmongWords, page_word, Stores, store_word, memory_word, count_add, none_then, leads_weaker, stores_none, Op, words_at, words_of, Item, item_at, open_in, range_of, nil_from_length, IsSilent, long_jump, HasWords, stores_then, leads_then, open_from, Exit, Head, OfWord, Shape, bare, exit_items, head_items, items_of, mark_items, marked, leads_none, silent_none, silent_then, Hops, IsAboutToRun, long_jump_fits, HasCode, stays, jumps_hop, IsOnWay, in_first_word, is_spill, spills_on, cells_in, operations_on, snippet_on, updates, Pieces}
use Rattle.layout.specs.declared.items.Item.TheVariants as it
use Rattle.code_runs.proofs.LongJump.{long_jumps_hop}
use Rattle.layout.specs.Laid.{OpenMark, is_jump, size_of}
use Rattle.image_code.proofs.Points.{Forms, Site}
use Rattle.image_code.proofs.PointShapes.{LeadsTo, Reaches}
use Rattle.image_code.proofs.Cells.{IsFit, IsNoted, fits, item_below, item_size, stores_weaker, cell_low, cells_above, cell_stored, own_stored, page_above, page_there, may_store, operations_then, updates_same, updates_then, word_kept, images_stored}
use Rattle.image_code.proofs.Dead.{IsAlike, LastDead, NothingDead, alike_same, alike_then, last_parted, nothing_parted}
use Rattle.image_code.proofs.Positions.{get_second}
use Rattle.image_code.proofs.Shapes.{has_words, head_is, is_branch}
use Rattle.image_code.proofs.Sparing.{first_cell, first_kept_word, same_steps, spill_cell, spill_first, spills_then}
use Rattle.image_code.specs.declared.shape.Exit.TheVariants as exits
use Rattle.layout.proofs.Going.{word_is}

-- ---- items without a Mark

abbrev pub AreUnmarked : List Item → Type 0
AreUnmarked [] = Unit {0}
AreUnmarked (it.Mark address node ∷ xs) = ⊥
AreUnmarked (it.EndMark ∷ xs) = ⊥
AreUnmarked (x ∷ xs) = AreUnmarked xs

words_unmarked : (ws : List ℕ) (xs : List Item) → AreUnmarked xs → AreUnmarked (map it.Word ws ++ xs)
words_unmarked [] xs are = are
words_unmarked (w ∷ ws) xs are = words_unmarked ws xs are

unmarked_open : (xs : List Item) (n k : ℕ) → AreUnmarked xs → open_from xs n k None ≡ None
unmarked_open [] n k are = refl
unmarked_open (x ∷ xs) n zero are = refl
unmarked_open (it.Mark a b ∷ xs) n (suc k) are = absurd are
unmarked_open (it.EndMark ∷ xs) n (suc k) are = absurd are
unmarked_open (x ∷ xs) n (suc k) are = unmarked_open xs (suc n) k are

pub length_words : (ws : List ℕ) → length (map it.Word ws) ≡ length ws
length_words ws = length-map ws it.Word

-- From its item n on, a piece is these items, and no Mark is open there.
pub record PieceFrom (l : Pieces) (k n : ℕ) (xs : List Item) : Type 0 where
  pub within : k < length l.list
  pub size : size_of l.list k ≡ n + length xs
  pub items : (j : ℕ) → item_at l.list k (n + j) ≡ slice_get xs j
  pub shut : (j : ℕ) → open_in (slice_get l.list k) (n + j) ≡ None

pub rest_behind : (l : Pieces) (k n : ℕ) (xs ys : List Item) → PieceFrom l k n (xs ++ ys) → PieceFrom l k (n + length xs) ys
rest_behind l k n xs ys r = record {
  within = r.within;
  size = omega (arith, r.size, length-append xs ys);
  items = λ j. rw (add_assoc n (length xs) j, r.items (length xs + j)) (get_second xs ys j);
  shut = λ j. rw (add_assoc n (length xs) j) (r.shut (length xs + j));
}

-- the words of the snippets on some edges, in order
abbrev pub words_on : Pieces → List ℕ → List Item
words_on l edges = map it.Word (flat_map l.codes edges)

-- ---- the items of a shape

exit_unmarked : (exit : Exit) → AreUnmarked (exit_items exit)
exit_unmarked (exits.Saved code) = rw append-nil at (words_unmarked code [] tt)
exit_unmarked _ = tt

pub head_unmarked : (address : Addr) (head : Head) → AreUnmarked (head_items address head)
head_unmarked address head = elim (head_is address head) [
  | has_words ws is many ↦ rw is (rw append-nil at (words_unmarked ws [] tt))
  | is_branch cond to is ↦ rw is tt
]

-- how many items stand before the snippets
abbrev pub front_of : Shape → ℕ
front_of s = length (mark_items s.mark [])

mark_first : (mark : Option (OfWord × Head)) (rest : List Item) → mark_items mark rest ≡ mark_items mark [] ++ rest
mark_first None rest = refl
mark_first (Some (visit, head)) rest = rw append_assoc

-- behind the end of a Mark none is open
open_behind : (hs xs : List Item) (n k : ℕ) (o : Option OpenMark) → length hs < k → AreUnmarked hs → AreUnmarked xs
    → open_from (hs ++ it.EndMark ∷ xs) n k o ≡ None
open_behind [] xs n (suc k) o l none are = unmarked_open xs (suc n) k are
open_behind (it.Mark a b ∷ hs) xs n k o l none are = absurd none
open_behind (it.EndMark ∷ hs) xs n k o l none are = absurd none
open_behind (x ∷ hs) xs n (suc k) o l none are = open_behind hs xs (suc n) k o (omega (arith, l)) none are
open_behind _ xs n zero o l none are = absurd (omega (arith, l))

front_shut : (mark : Option (OfWord × Head)) (rest : List Item) (k : ℕ) → length (mark_items mark []) ≤ k
    → AreUnmarked rest → open_from (mark_items mark rest) 0 k None ≡ None
front_shut None rest k few are = unmarked_open rest 0 k are
front_shut (Some (visit, head)) rest zero few are = refl
front_shut (Some (visit, head)) rest (suc k) few are =
    let hs = head_items visit.address head in
    open_behind hs rest 1 k _ (omega (arith, few, length-append hs (it.EndMark ∷ []))) (head_unmarked visit.address head) are

-- behind an item that is no Jump, none of some words is one
no_jump : (x : Item) (ws : List ℕ) (n : ℕ) → is_jump (Some x) ≡ false
    → is_jump (slice_get (x ∷ map it.Word ws) n) ≡ false
no_jump x ws zero h = h
no_jump x [] (suc n) h = refl
no_jump x (w ∷ ws) (suc n) h = no_jump (it.Word w) ws n refl

-- without an exit no Jump stands at the end of a piece
last_falls : (mark : Option (OfWord × Head)) (ws : List ℕ)
    → let items = mark_items mark (map it.Word ws) in is_jump (slice_get items (length items - 1)) ≡ false
last_falls None [] = refl
last_falls None (w ∷ ws) = no_jump (it.Word w) ws _ refl
last_falls (Some (visit, head)) ws =
    let before = it.Mark visit.address visit.node ∷ head_items visit.address head in
    let behind = it.EndMark ∷ map it.Word ws in
    let last : length (before ++ behind) - 1 ≡ length before + length ws =
    omega (arith, length-append before behind, length-map ws it.Word) in
    rw (last, get_second before behind (length ws)) (no_jump it.EndMark ws _ refl)

-- edges without operations leave the cells
no_updates : (snips : List (List Op)) (edges cells : List ℕ) (s : State) → operations_on snips edges ≡ 0
    → updates snips edges cells s ≡ cells
no_updates snips [] cells s none = refl
no_updates snips (edge ∷ edges) cells s none =
    rw (nil_from_length (snippet_on snips edge) (omega (arith, none)))
    (no_updates snips edges cells s (omega (arith, none)))

module _ (site : Site) where
  open site use {g, l, shapes, made, base, p, place, f, placed}

  -- in the code, and in no place
  abbrev pub IsInNoPlace : State → Type 0
  IsInNoPlace u = IsNoted site None u.pc

  pub bare_on : (t u : State) → u.ending ≡ None → IsInNoPlace u → IsOnWay g t u
  bare_on t u live bare =
      record { live = live; visit = rw (live, bare.0, bare.1); place = λ r e. let none = bare.0 in absurd (cc) }

  -- Where the original goes on at a word of the text, it is known what the way stores, and that it takes a word for
  -- each four of its bound where nothing is long.
  pub record IsTold (edges : List ℕ) (a : State) (most count : ℕ) (m : Memory) : Type 0 where
    pub found : memory_word m (page_word 7) ≡ memory_word a.memory (page_word 7)
    pub spares : count_stores (is_spill g.notes) a count ≤ spills_on g.snips g.dead edges
    pub leaves_first : Forms site → count_stores in_first_word a count ≡ 0
    pub brief : Forms site → 4 * count ≤ most + 88 * operations_on g.snips edges

  -- A way through such words and the snippets of some edges: all stays as it was but what is dead behind these and
  -- words of the editor's, and in them the cells are updated, and the target that waits in word 1 of the page stays.
  pub record FollowsRoute (next : Option ℕ) (edges : List ℕ) (a : State) (to most : ℕ) : Type 0 where
    pub count : ℕ
    pub other : State
    pub memory : Memory
    pub few : count ≤ most + 22 * operations_on g.snips edges
    pub path : Leads IsInNoPlace a (hopped other to memory) count
    pub silent : IsSilent a count
    pub stores : Stores (IsAmongWords f.stored) a.memory memory
    pub target_in_page : memory_word memory (page_word 1) ≡ memory_word a.memory (page_word 1)
    pub cells : LastDead g edges → words_at g.notes.base g.notes.cells memory ≡ updates g.snips edges (cells_in g.notes a) a
    pub begins : 0 < count → IsInNoPlace a
    pub alike : IsAlike g edges a (hopped other to memory)
    pub still : NothingDead g edges → hopped other to memory ≡ hopped a to memory
    pub told : next ≢ None → IsTold edges a most count memory

  -- where a way ends
  pub arrived : {next : Option ℕ} (edges : List ℕ) (a : State) (to most : ℕ)
      → IsFit site a → to ≤ 2 ^ 31 → (w : FollowsRoute next edges a to most) → IsFit site (hopped w.other to w.memory)
  arrived edges a to most k low w =
      let b : State = hopped w.other to w.memory in
      fits site b (subst IsValid w.path.steps (run-valid a w.count k.valid)) (w.alike.ending ∙ k.runs.ready.live)
      (omega arith) refl (images_stored site a b w.count w.path.steps w.stores k.has)

  -- in no place, and along edges without operations
  hops_on : {next : Option ℕ} {May : ℕ → Type 0} (edges : List ℕ) → operations_on g.snips edges ≡ 0 → (a : State)
      (to most count : ℕ) (m : Memory) → IsFit site a → Hops a count May to m → ((z : ℕ) → May z → IsPageWord z)
      → memory_word m (page_word 1) ≡ memory_word a.memory (page_word 1) → count ≤ most
      → ((u : State) → a.pc ≤ u.pc → u.pc < a.pc + 4 * count → IsInNoPlace u)
      → (next ≢ None → IsTold edges a most count m) → FollowsRoute next edges a to most
  hops_on edges none a to most count m fit hops in_page same few bare told =
      let stores = stores_weaker _ IsPageWord a.memory m in_page hops.stores in
      let path = leads_weaker _ IsInNoPlace a _ count (λ u q. bare u (omega (arith, q.past)) q.before) hops.path in
      let cells = cells_above site IsPageWord page_above a.memory m fit.has.ours stores
      ∙ sym (no_updates g.snips edges (cells_in g.notes a) a none) in
      let begins = λ (some : 0 < count). bare a (omega arith) (omega (arith, some)) in
      let alike = alike_same g edges a (hopped a to m) m refl in
      search (arith, hops.silent, own_stored site a.memory m stores, begins, told)

  -- the way has no step
  pub bare_here : {next : Option ℕ} (edges : List ℕ) (a : State) (to most : ℕ) → operations_on g.snips edges ≡ 0
      → IsFit site a → a.pc ≡ to → a.pc ≤ 2 ^ 31 → FollowsRoute next edges a to most
  bare_here edges a to most none fit e low =
      let hops : Hops a 0 IsFirstWord to a.memory = record {
        path = rw (stays a to e fit.runs.ready.npc fit.runs.slot (omega arith)) (leads_none _ a);
        silent = silent_none a;
        stores = stores_none IsFirstWord a.memory;
      } in
      hops_on edges none a to most 0 a.memory fit hops (λ z e. inl e) refl (omega arith)
      (λ u from to. absurd (omega (arith, from, to)))
      (λ _. record { found = refl; spares = omega arith; leaves_first = λ _. refl; brief = λ _. omega arith })

  -- an item outside each Mark
  pub bare_item : (k n : ℕ) (x : Item) → item_at l.list k n ≡ Some x → open_in (slice_get l.list k) n ≡ None
      → (u : State) → place k n ≤ u.pc → u.pc < place k (suc n) → IsInNoPlace u
  bare_item k n x item closed u low high =
      let here = item_below l.list k n x item in
      let size = item_size l.list k n x item in
      let above : base ≤ u.pc = omega (arith, (placed.laid.within k n here (omega (arith, size))).begins, low) in
      let below : u.pc < base + 4 * length p.code = omega (arith, (placed.laid.within k (suc n) here size).ends, high) in (
        placed.noted.ranges u.pc above below ∙ placed.laid.ranges k n u.pc x item low high ∙ ap (range_of (place k)) closed,
        placed.noted.inside u.pc above below,
      )

  -- a Jump outside each Mark
  pub jump_on : (next : Option ℕ) (k n : ℕ) (z : PieceNo) → item_at l.list k n ≡ Some (it.Jump z)
      → open_in (slice_get l.list k) n ≡ None
      → (a : State) → IsFit site a → a.pc ≡ place k n → FollowsRoute next [] a (slice_index p.at z.0) 4
  jump_on next k n z item closed a fit at =
      let j = jumps_hop l.list base p place placed.laid k n z item a fit.runs at in
      let ins = j.inside in
      let kept : (n : ℕ) → 0 < n → n < 8 → memory_word j.memory (page_word n) ≡ memory_word a.memory (page_word n) =
      λ n some few. word_kept IsFirstWord (page_word n) (λ z e. inr (omega (arith, e, some))) a.memory j.memory
      j.hops.stores (page_there site a.memory fit.has.ours n few) in
      hops_on [] refl a (slice_index p.at z.0) 4 j.count j.memory fit j.hops (λ z e. inl e)
      (kept 1 (omega arith) (omega arith)) (omega (arith, j.few))
      (λ u from to. bare_item k n (it.Jump z) item closed u (omega (arith, at, from)) (omega (arith, at, to, ins)))
      (λ _. record {
        found = kept 7 (omega arith) (omega arith);
        spares = omega (arith, j.stored (is_spill g.notes) (inl (spill_first g.notes)));
        leaves_first = λ short. j.stored in_first_word (inr (omega (arith, short k n (it.Jump z) item, at)));
        brief = λ short. omega (arith, short k n (it.Jump z) item, at, ins);
      })

  -- a way after another one
  pub on_then : {next : Option ℕ} (edges first others : List ℕ) → edges ≡ first ++ others → (a : State)
      (mid to few more : ℕ) (one : FollowsRoute next first a mid few)
      → FollowsRoute next others (hopped one.other mid one.memory) to more → FollowsRoute next edges a to (few + more)
  on_then edges first others all a mid to few more one other =
      let b : State = hopped one.other mid one.memory in
      rw all (record {
        count = one.count + other.count;
        other = other.other;
        memory = other.memory;
        few = omega (arith, one.few, other.few, operations_then g.snips first others);
        path = leads_then IsInNoPlace a b _ one.count other.count one.path other.path (λ _ some. other.begins some);
        silent = silent_then a b one.count other.count one.path.steps one.silent other.silent;
        stores = stores_then (IsAmongWords f.stored) (IsAmongWords f.stored) a.memory one.memory other.memory
            (λ z e. e) one.stores other.stores;
        target_in_page = other.target_in_page ∙ one.target_in_page;
        cells = λ d.
            let parts = last_parted g first others d in
            -- the later snippets read what the earlier ones left
            let read : updates g.snips others (cells_in g.notes b) b ≡ updates g.snips others (cells_in g.notes b) a =
            elim parts.2 [
              | inl none ↦ rw none
              | inr nothing ↦
                  updates_same g.snips others _ b a (ap (λ (z : State). register_of z) (one.still nothing))
            ] in
            other.cells parts.1 ∙ read
            ∙ rw (one.cells parts.0) (sym (updates_then g.snips first others (cells_in g.notes a) a));
        begins = λ some. elim (cases_lt 0 one.count) [
          | inl more ↦ one.begins more
          | inr none ↦
              let still : one.count ≡ 0 = omega arith in
              subst IsInNoPlace (sym one.path.steps ∙ ap (run a) still) (other.begins (omega arith))
        ];
        alike = alike_then g first others a b _ one.alike other.alike;
        still = λ d.
            let both = nothing_parted g first others d in
            other.still both.1 ∙ ap (λ (z : State). hopped z to other.memory) (one.still both.0);
        told = λ there.
            let both = count_add (is_spill g.notes) a b one.count one.path.steps other.count in
            let q = one.told there in
            let r = other.told there in
            let first_word = none_then in_first_word a b one.count other.count one.path.steps in
            let spills = spills_then g first others in
            let few = operations_then g.snips first others in
            search (arith, both, first_word, spills, few, q.leaves_first, q.brief, r.leaves_first, r.brief);
      })

  -- ---- words

  -- words from item n on: where they stand, and that all they take is in no place
  pub record CodeAt (m : Memory) (k n : ℕ) (ws : List ℕ) : Type 0 where
    pub words : HasWords (code_of m) (place k n) ws
    pub end : place k (n + length ws) ≡ place k n + 4 * length ws
    pub low : place k (n + length ws) ≤ 2 ^ 31
    pub bare : (u : State) → place k n ≤ u.pc → u.pc < place k n + 4 * length ws → IsInNoPlace u

  -- wherever they stand
  pub words_laid : (m : Memory) → HasCode base p.code m → (k n : ℕ) (ws : List ℕ) (xs : List Item)
      → ((j : ℕ) → item_at l.list k (n + j) ≡ slice_get (map it.Word ws ++ xs) j)
      → HasWords (code_of m) (place k n) ws × (place k (n + length ws) ≡ place k n + 4 * length ws)
  words_laid m has k n [] xs items = (tt, omega (arith, ap (place k) (add-zero n)))
  words_laid m has k n (w ∷ ws) xs items =
      let at = placed.laid.items k n (it.Word w) (rw add-zero at (items 0)) in
      let more = words_laid m has k (suc n) ws xs
      (λ j. let e : suc n + j ≡ n + suc j = omega arith in rw e (items (suc j))) in
      let all : n + suc (length ws) ≡ suc n + length ws = omega arith in (
        (word_is base (place k n) w p.code m has at.1, rw at.0 at more.0),
        omega (arith, ap (place k) all, more.1, at.0),
      )

  words_bare : (k n : ℕ) (ws : List ℕ) (xs : List Item) → PieceFrom l k n (map it.Word ws ++ xs) → (u : State)
      → place k n ≤ u.pc → u.pc < place k (n + length ws) → IsInNoPlace u
  words_bare k n [] xs r u from to = absurd (omega (arith, from, to, ap (place k) (add-zero n)))
  words_bare k n (w ∷ ws) xs r u from to = elim (cases_lt u.pc (place k (suc n))) [
    | inl before ↦
        bare_item k n (it.Word w) (rw add-zero at (r.items 0)) (rw add-zero at (r.shut 0)) u from before
    | inr behind ↦
        let all : n + suc (length ws) ≡ suc n + length ws = omega arith in
        words_bare k (suc n) ws xs (rw add-one at (rest_behind l k n (it.Word w ∷ []) (map it.Word ws ++ xs) r)) u behind
        (omega (arith, to, ap (place k) all))
  ]

  -- where words end, inside the code
  stood_low : (k n : ℕ) (ws : List ℕ) (xs : List Item) → PieceFrom l k n (map it.Word ws ++ xs)
      → place k (n + length ws) ≤ 2 ^ 31
  stood_low k n ws xs r =
      let both = length-append (map it.Word ws) xs in
      let ends = (placed.laid.within k (n + length ws) r.within (omega (arith, r.size, both, length_words ws))).ends in
      omega (arith, ends, placed.laid.low)

  pub stood : (m : Memory) → HasCode base p.code m → (k n : ℕ) (ws : List ℕ) (xs : List Item)
      → PieceFrom l k n (map it.Word ws ++ xs) → CodeAt m k n ws
  stood m has k n ws xs r =
      let laid = words_laid m has k n ws xs r.items in
      record {
        words = laid.0;
        end = laid.1;
        low = stood_low k n ws xs r;
        bare = λ u from to. words_bare k n ws xs r u from (omega (arith, to, laid.1));
      }

  -- ---- the snippets of some edges

  snippet_runs : (next : Option ℕ) (edge k n : ℕ) (xs : List Item) → PieceFrom l k n (map it.Word (l.codes edge) ++ xs)
      → (a : State) → IsFit site a → a.pc ≡ place k n
      → FollowsRoute next (edge ∷ []) a (place k (n + length (l.codes edge))) 0
  snippet_runs next edge k n xs r a fit at =
      let words = l.codes edge in
      let there = stood a.memory fit.has.code k n words xs r in
      let end = there.end in
      let low = there.low in
      let short = placed.cells.short edge in
      let named = placed.cells.named edge in
      let page = page_there site a.memory fit.has.ours in
      let about : IsAboutToRun words g.notes.base (snippet_on g.snips edge) a = record {
        valid = fit.valid;
        ready = fit.runs.ready;
        slot = fit.runs.slot;
        low = omega (arith, at, end, low);
        stand = rw at there.words;
        cell = λ cell its. cell_stored site a.memory fit.has.ours cell (named cell its);
        page = λ i few. page (i + 2) (omega (arith, few));
      } in
      let past = placed.cells.does edge (is_spill g.notes) (λ cell its. spill_cell g.notes cell (named cell its)) a about in
      let again = placed.cells.does edge in_first_word
      (λ cell its. first_cell _ (cell_low site cell (named cell its))) a about in
      let same : again.steps ≡ past.steps =
      same_steps a again.steps past.steps (a.pc + 4 * length words) (rw again.path.steps again.pc) (rw past.path.steps past.pc)
      (λ j some less. (again.path.during j some less).before) (λ j some less. (past.path.during j some less).before)
      (λ e. (omega (arith, e, again.few), omega (arith, e, past.few))) in
      let few = past.few in
      let pc = past.pc in
      let found = word_kept _ _ (λ z may. (may_store site edge z may).2) _ _ past.stores (page 7 (omega arith)) in
      let first = again.elsewhere (λ word _. first_kept_word word) in
      let there_is = stays past.after (place k (n + length words)) (omega (arith, pc, at, end)) (omega (arith, pc, past.npc))
      past.slot (omega (arith, low)) in
      record {
        count = past.steps;
        other = past.after;
        memory = past.after.memory;
        few = omega (arith, few, short);
        path = rw there_is (leads_weaker _ IsInNoPlace a past.after past.steps
            (λ u q. there.bare u (omega (arith, at, q.past)) (omega (arith, at, q.before))) past.path);
        silent = past.silent;
        stores = stores_weaker _ _ _ _ (λ z may. (may_store site edge z may).0) past.stores;
        target_in_page = word_kept _ _ (λ z may. (may_store site edge z may).1) _ _ past.stores (page 1 (omega arith));
        cells = λ _. past.cells g.notes.cells named placed.cells.low;
        begins = λ some. there.bare a (omega (arith, at)) (omega (arith, at, some, few));
        alike = rw there_is (search (λ (item : StateItem) (kept : IsKept g (edge ∷ []) a.window item). past.items item kept.0));
        still = λ d. ap (λ (z : State). hopped z (place k (n + length words)) past.after.memory) (past.all d.0);
        told = λ _. search (arith, found, past.stored, same, first, few, short);
      }

  pub snippets_run : (next : Option ℕ) (edges : List ℕ) (k n : ℕ) (xs : List Item) → PieceFrom l k n (words_on l edges ++ xs)
      → (a : State) → IsFit site a → a.pc ≡ place k n
      → FollowsRoute next edges a (place k (n + length (flat_map l.codes edges))) 0
  snippets_run next [] k n xs r a fit at =
      rw add-zero
      (bare_here [] a (place k n) 0 refl fit at (omega (arith, at, rw add-zero at (stood_low k n [] xs r))))
  snippets_run next (edge ∷ edges) k n xs r a fit at =
      let first = l.codes edge in
      let rest = words_on l edges ++ xs in
      let r2 : PieceFrom l k n (map it.Word first ++ rest) =
      rw (map-append it.Word first (flat_map l.codes edges), append_assoc) at r in
      let one = snippet_runs next edge k n rest r2 a fit at in
      let mid = place k (n + length first) in
      let fit2 = arrived (edge ∷ []) a mid 0 fit (stood_low k n first rest r2) one in
      let other = snippets_run next edges k (n + length first) xs
      (rw (length_words first) at (rest_behind l k n (map it.Word first) rest r2)) (hopped one.other mid one.memory) fit2
      (refl {a = mid}) in
      let sum : n + length first + length (flat_map l.codes edges) ≡ n + length (flat_map l.codes (edge ∷ edges)) =
      omega (arith, length-append first (flat_map l.codes edges)) in
      rw (← sum) (on_then (edge ∷ edges) (edge ∷ []) edges refl a mid _ 0 0 one other)

  -- ---- long jumps

  -- Instructions outside each Mark that keep a register in another word of the page than word 1, and jump.
  pub words_hop : {May : ℕ → Type 0} (k n to : ℕ) (xs : List Instr) → Fit xs
      → PieceFrom l k n (word_items xs) → (a : State) → IsFit site a → a.pc ≡ place k n → 0 < length xs
      → ((z : ℕ) → May z → IsPageWord z) → (word v : ℕ)
      → (page_word 1 + 4 ≤ page_word word) ⊎ (page_word word + 4 ≤ page_word 1)
      → (StandIn (code_of a.memory) a.pc xs → a.pc + 4 * length xs ≤ 2 ^ 31
      → Hops a (length xs) May to (store_word a.memory (page_word word) v))
      → FollowsRoute None [] a to (length xs)
  words_hop k n to xs fits r a fit at some in_page word v other does =
      let there = stood a.memory fit.has.code k n (words_of xs) [] (rw append-nil r) in
      let many : length (words_of xs) ≡ length xs = length-map xs word_of in
      let hops =
      does (rw at (words_mean (code_of a.memory) (place k n) xs fits there.words))
      (omega (arith, at, many, there.end, there.low)) in
      hops_on [] refl a to (length xs) (length xs) (store_word a.memory (page_word word) v) fit hops in_page
      (other_word_stored a.memory (page_word 1) (page_word word) v
      (page_there site a.memory fit.has.ours 1 (omega arith)) other) (omega arith)
      (λ u from to. there.bare u (omega (arith, at, from)) (omega (arith, at, to, many))) (λ there. absurd (there refl))

  -- ---- weaker statements

  -- where of fewer ways it is asked what they store, and the bound is no lower
  unfoldable pub eased : {next after : Option ℕ} (edges : List ℕ) (a : State) (to few most : ℕ)
      → (after ≢ None → next ≢ None) → few ≤ most → FollowsRoute next edges a to few → FollowsRoute after edges a to most
  eased {after = after} edges a to few most asked less one =
      let bound : one.count ≤ most + 22 * operations_on g.snips edges = omega (arith, less, one.few) in
      let told : after ≢ None → IsTold edges a most one.count one.memory = λ there.
      let q = one.told (asked there) in
      record { found = q.found; spares = q.spares; leaves_first = q.leaves_first; brief = λ z. omega (arith, less, q.brief z) } in
      search (one.silent, one.cells, one.begins, one.still, told)

  abbrev pub weaker_route : {next : Option ℕ} (edges : List ℕ) (a : State) (to few most : ℕ) → few ≤ most
      → FollowsRoute next edges a to few → FollowsRoute next edges a to most
  weaker_route edges a to few most less one = eased edges a to few most (λ there. there) less one

  -- whatever comes next
  abbrev pub unwatched : (next : Option ℕ) (edges : List ℕ) (a : State) (to most : ℕ) → FollowsRoute next edges a to most
      → FollowsRoute None edges a to most
  unwatched next edges a to most one = eased edges a to most most (λ there. absurd (there refl)) (omega arith) one

  -- ---- the piece of a shape

  pub items_at : (k : ℕ) (s : Shape) → slice_get shapes k ≡ Some s → slice_get l.list k ≡ Some (items_of l.codes s)
  items_at k s is = rw (made, slice_get-map (items_of l.codes) shapes k, is)

  pub shape_within : (k : ℕ) (s : Shape) → slice_get shapes k ≡ Some s → k < length l.list
  shape_within k s is = slice_get_within l.list k _ (items_at k s is)

  -- its snippets and its exit, behind what its Mark has
  pub from_shape : (k : ℕ) (s : Shape) → slice_get shapes k ≡ Some s
      → PieceFrom l k (front_of s) (words_on l s.edges ++ exit_items s.exit)
  from_shape k s is =
      let rest = words_on l s.edges ++ exit_items s.exit in
      let whole = items_at k s is ∙ ap (λ (xs : List Item). Some xs) (mark_first s.mark rest) in
      record {
        within = shape_within k s is;
        size = rw whole (length-append (mark_items s.mark []) rest);
        items = λ j. rw whole (get_second (mark_items s.mark []) rest j);
        shut = λ j. rw (items_at k s is) (front_shut s.mark rest _ (omega arith)
            (words_unmarked (flat_map l.codes s.edges) (exit_items s.exit) (exit_unmarked s.exit)));
      }

  -- a piece that ends in words goes on in the next one
  pub falls : (k : ℕ) (s : Shape) (ws : List ℕ) → slice_get shapes k ≡ Some s → words_on l s.edges ++ exit_items s.exit
      ≡ map it.Word ws → suc k < length l.list → place k (size_of l.list k) ≡ slice_index p.at (suc k)
  falls k s ws is words next =
      let items = items_at k s is ∙ ap (λ (xs : List Item). Some (mark_items s.mark xs)) words in
      let closed : is_jump (item_at l.list k (size_of l.list k - 1)) ≡ false = rw items (last_falls s.mark ws) in
      placed.laid.falls k next closed ∙ sym (placed.laid.starts (suc k) next)

  -- how many words of each way out there are at most
  abbrev pub exit_most : Exit → ℕ
  exit_most exits.Behind = 0
  exit_most _ = 4

  exit_few : (exit : Exit) → exit_most exit ≤ 4
  exit_few exit = grind arith

  exit_runs : (k n : ℕ) (exit : Exit) → PieceFrom l k n (exit_items exit)
      → (exit ≡ exits.Behind → suc k < length l.list → place k (size_of l.list k) ≡ slice_index p.at (suc k))
      → (a : State) (next : Option ℕ) (to : ℕ) → IsFit site a → a.pc ≡ place k n → Reaches site k exit next to
      → FollowsRoute next [] a to (exit_most exit)
  exit_runs k n exits.Behind r falls a next to fit at reaches =
      let end : place k n ≡ slice_index p.at (suc k) =
      ap (place k) (omega (arith, r.size)) ∙ falls refl reaches.0 in
      bare_here [] a to 0 refl fit (at ∙ end ∙ reaches.1) (omega (arith, at, end, (placed.laid.aligned (suc k)).1))
  exit_runs k n (exits.Piece piece) r falls a next to fit at reaches =
      rw (← reaches) (jump_on next k n piece (rw add-zero at (r.items 0)) (rw add-zero at (r.shut 0)) a fit at)
  exit_runs k n (exits.Far address) r falls a next to fit at (out, far, is) =
      rw out (words_hop k n to (long_jump to) (long_jump_fits to far.0) (rw is at r) a fit at (omega arith)
      (λ z e. inl e) 0 (register_of a 1) (inr (omega arith)) (λ stand low.
      long_jumps_hop to a fit.valid fit.runs.ready (omega (arith, low)) fit.runs.page stand far.0 far.1))
  exit_runs k n _ r falls a next to fit at reaches = absurd reaches

  -- through the snippets of its edges, and on
  pub shape_runs : (k : ℕ) (s : Shape) → slice_get shapes k ≡ Some s → (a : State) (next : Option ℕ) (to : ℕ)
      → IsFit site a → a.pc ≡ place k (front_of s) → Reaches site k s.exit next to
      → FollowsRoute next s.edges a to (exit_most s.exit)
  shape_runs k s is a next to fit at reaches =
      let words = flat_map l.codes s.edges in
      let r = from_shape k s is in
      let one = snippets_run next s.edges k (front_of s) (exit_items s.exit) r a fit at in
      let mid = place k (front_of s + length words) in
      let other =
      exit_runs k _ s.exit (rw (length_words words) at (rest_behind l k (front_of s) (words_on l s.edges) _ r))
      (λ none. falls k s words is (rw none (append-nil (words_on l s.edges)))) (hopped one.other mid one.memory) next to
      (arrived s.edges a mid 0 fit (stood_low k (front_of s) words (exit_items s.exit) r) one) refl reaches in
      rw zero-add at (on_then s.edges s.edges [] (sym (append-nil s.edges)) a mid to 0 (exit_most s.exit) one other)

  pub arrive : (z : PieceNo) (edges : List ℕ) (a : State) (next : Option ℕ) (to : ℕ) → IsFit site a
      → a.pc ≡ slice_index p.at z.0 → LeadsTo site z edges next to → FollowsRoute next edges a to 4
  arrive z edges a next to fit at (inl (none, e)) =
      rw none (bare_here [] a to 4 refl fit (at ∙ e) (omega (arith, at, (placed.laid.aligned z.0).1)))
  arrive z edges a next to fit at (inr (exit, is, reaches)) =
      weaker_route edges a to (exit_most exit) 4 (exit_few exit) (shape_runs z.0 (bare edges exit) is a next to fit
      (at ∙ placed.laid.starts z.0 (shape_within z.0 (bare edges exit) is)) reaches)

  -- behind its Mark a piece goes to one that leads on
  pub jump_then : (k : ℕ) (visit : OfWord) (head : Head) (z : PieceNo)
      → slice_get shapes k ≡ Some (marked visit head [] (exits.Piece z)) → (edges : List ℕ) (a : State)
      (next : Option ℕ) (to : ℕ) → IsFit site a → a.pc ≡ place k (front_of (marked visit head [] (exits.Piece z)))
      → LeadsTo site z edges next to → FollowsRoute next edges a to 8
  jump_then k visit head z is edges a next to fit at leads =
      let one = shape_runs k (marked visit head [] (exits.Piece z)) is a next (slice_index p.at z.0) fit at refl in
      on_then edges [] edges refl a (slice_index p.at z.0) to 4 4 one
      (arrive z edges (hopped one.other (slice_index p.at z.0) one.memory) next to
      (arrived [] a (slice_index p.at z.0) 4 fit (placed.laid.aligned z.0).1 one) refl leads)

  -- Where no edge is completed, and the original goes on at a word of the text, the way has no step.
  abbrev pub Tail : Option ℕ → List ℕ → State → ℕ → ℕ → Type 0
  Tail next edges a to most = (w : FollowsRoute next edges a to most) × (next ≢ None → edges ≡ [] → w.count ≡ 0)

  pub tail : (k : ℕ) (s : Shape) → slice_get shapes k ≡ Some s → (a : State) (next : Option ℕ) (to : ℕ) → IsFit site a
      → a.pc ≡ place k (front_of s) → Reaches site k s.exit next to → (next ≢ None → s.edges ≡ [] → s.exit ≡ exits.Behind)
      → Tail next s.edges a to 8
  unfolding eased
  tail k s is a next to fit at reaches alone =
      let one = shape_runs k s is a next to fit at reaches in (
        weaker_route s.edges a to (exit_most s.exit) 8 (omega (arith, exit_few s.exit)) one,
        λ there none.
            omega (arith, one.few, ap exit_most (alone there none), ap (operations_on g.snips) none),
      )
