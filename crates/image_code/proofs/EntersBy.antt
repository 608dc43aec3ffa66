-- From a visit to where control enters the next one: what runs at the visit itself, and the way behind it; or up to the
-- end of the run.
use Rattle.image_code.proofs.Common.{◌≡◌, ◌≢◌, ℕ, suc, ◌+◌, ◌-◌, ◌<◌, ◌≤◌, true, false, Option, Some, None, List, [], append-nil, refl, ap, sym, ◌∙◌, subst, arith, ◌%◌, word_at, Instr, decode_of, Memory, IsSameOutside, Ending, NoSlot, Taken, State, register_of, puts_on_word, run, run_puts, is_transfer, IsValid, run-valid, pages_of, instr_at, node_after, point_of, way_of, lived_to, same_kind, count_stores, hopped, Leads, IsAmongWords, page_word, Stores, memory_word, count_add, none_then, leads_weaker, found_in, IsPageWord, saved_address, IsSilent, stores_then, leads_then, puts_add, outside_refl, quiet_transfer, IsWatched, NoneIsOut, in_first_word, is_jmpl, is_spill, is_transfer_at, cells_in, updates, HasImages, HasNoCases, ◌∷◌, ◌++◌, length, length-append, length-map, Addr, PieceNo, word_of as encoded, words_of, past, word_items, Head, Shape, head_items, marked, number_in, graph_in}
use Rattle.cfg_blocks.specs.declared.EdgeKind.TheVariants as kinds
use Rattle.image_code.specs.Simulates.{IsFollowedBy, IsKept, IsOnWay, IsThere, at_point, gone_at, graph_in, word_of, edit_in}
use Rattle.image_code.proofs.Points.{ReachesNext, Forms, entered_at, Visit}
use Rattle.image_code.proofs.Routes.{FollowsRoute, bare_on, front_of, jump_then}
use Rattle.image_code.proofs.Cells.{IsFit, ended_none, fits, quiet_of, cells_above, own_stored, page_above, updates_same, images_stored, same_stored}
use Rattle.image_code.proofs.Dead.{LastDead, alike_same, alike_then, followed_alike}
use Rattle.image_code.proofs.Sparing.{instr_is}
use Rattle.image_code.proofs.PointShapes.{IsMarked, LeadsTo}
use Rattle.image_code.proofs.Marked.{AtWords, at_instrs}
use Rattle.layout.specs.declared.items.Item.TheVariants as it
use Rattle.image_code.specs.declared.shape.Exit.TheVariants as exits

-- what is no transfer is no JMPL
no_jump : (o : Option Instr) → is_transfer_at o ≡ false → is_jmpl o ≡ false
no_jump o e = grind arith

-- steps that put nothing out behind others
pub puts_then : (s t : State) (k l : ℕ) → run s k ≡ t → IsSilent t l → (descriptor : ℕ)
    → run_puts s (k + l) descriptor ≡ run_puts s k descriptor
puts_then s t k l steps silent descriptor =
    let turned : k + l ≡ l + k = omega arith in
    rw (turned, puts_add s k l descriptor, steps, silent descriptor) (append-nil (run_puts s k descriptor))

module _ (visit : Visit) where
  open visit use {site, node, x, t, here, site.{g, base, p, f}}

  -- a state of a run that goes on is on the way from the visit
  abbrev pub OnWay : State → Type 0
  OnWay u = u.ending ≡ None → IsOnWay g t u

  -- ---- what runs at the visit

  -- so many steps store nothing that is counted, and are few where nothing is long
  pub record IsSpared (count : ℕ) : Type 0 where
    pub spills : count_stores (is_spill g.notes) t count ≡ 0
    pub first : Forms site → count_stores in_first_word t count ≡ 0
    pub brief : Forms site → count ≤ 2

  -- So many steps put out what the original's does, and leave the cells. A word that is no transfer is one step.
  pub record Past (edges : List ℕ) (v mid : State) (count : ℕ) : Type 0 where
    pub path : Leads OnWay t mid count
    pub some : 0 < count
    pub few : count ≤ 14
    pub puts : (descriptor : ℕ)
        → run_puts t count descriptor ≡ puts_on_word (at_point x t) (word_of g.text x.pc) descriptor
    pub cells : cells_in g.notes mid ≡ cells_in g.notes t
    pub spares : IsWatched (edit_in g) edges x v → IsSpared count
    pub alone : is_transfer_at (instr_at g.text x.pc) ≡ false → count ≡ 1

  -- what the page has where control comes to the slot of a JMPL without Case edges
  abbrev pub TargetInPage : Option ℕ → List ℕ → State → Memory → Type 0
  TargetInPage next edges v m =
      v.slot ≡ Taken → same_kind (way_of (instr_at g.text (v.pc - 4)) v.slot) kinds.Out ≡ true
      → HasNoCases g (node_after (graph_in g) node edges) → (memory_word m (page_word 1) ≡ v.npc) × (v.npc % 4 ≡ 0)
      × (word_at g.text v.pc ≢ None → (next ≢ None) × (memory_word m (page_word 7) ≡ found_in f.halves v.npc))

  -- ---- the run goes on

  -- They lead to a machine that is v but for its place and for words of the editor's, and can run on.
  pub record PastOn (next : Option ℕ) (edges : List ℕ) (v mid : State) (count : ℕ) : Type 0 where
    pub past : Past edges v mid count
    pub same : hopped v 0 mid.memory ≡ hopped mid 0 mid.memory
    pub outside : (n : Memory) → Stores (IsAmongWords f.stored) mid.memory n → IsSameOutside (pages_of g.notes) v.memory n
    pub has : HasImages g base p f mid.memory
    pub live : mid.ending ≡ None
    pub npc : mid.npc ≡ mid.pc + 4
    pub slot : mid.slot ≡ NoSlot
    pub target_in_page : TargetInPage next edges v mid.memory
    pub watched : IsWatched (edit_in g) edges x v → next ≢ None
    pub kept : is_transfer_at (instr_at g.text x.pc) ≡ false → saved_address mid ≡ saved_address t

  -- the way behind them, which has no step where a word that is no transfer completes no edge
  abbrev pub Behind : Option ℕ → List ℕ → State → State → Type 0
  Behind next edges v mid =
      (w : FollowsRoute site next edges mid (entered_at site (node_after (graph_in g) node edges) (point_of v)) 8)
      × (is_transfer_at (instr_at g.text x.pc) ≡ false → next ≢ None → edges ≡ [] → w.count ≡ 0)

  pub enters_by : (next : Option ℕ) (edges : List ℕ) (v mid : State) (count : ℕ) → LastDead g edges
      → PastOn next edges v mid count → (IsFit site mid → Behind next edges v mid) → ReachesNext site edges node x t v
  enters_by next edges v mid count last w onward =
      let a = w.past in
      let to = entered_at site (node_after (graph_in g) node edges) (point_of v) in
      let valid : IsValid mid = subst IsValid a.path.steps (run-valid t count here.valid) in
      let behind = onward (fits site mid valid w.live w.npc w.slot w.has) in
      let rest = behind.0 in
      let way = leads_then OnWay t mid (hopped rest.other to rest.memory) count rest.count a.path
      (leads_weaker _ OnWay mid _ rest.count (λ u bare live. bare_on site t u live bare) rest.path)
      (λ _ some live. bare_on site t mid live (rest.begins some)) in
      let lives : rest.other.ending ≡ None = rest.alike.ending ∙ w.live in
      let quiet = quiet_of site t _ (count + rest.count) OnWay way lives (λ u live on. on live) in
      record {
        on = record {
          count = count + rest.count;
          after = hopped rest.other to rest.memory;
          path = search (arith, way.steps, a.some, a.few, rest.few, quiet);
          puts = λ descriptor.
              puts_then t mid count rest.count a.path.steps rest.silent descriptor ∙ a.puts descriptor;
          followed = followed_alike g edges v (hopped rest.other to rest.memory) (w.outside rest.memory rest.stores)
              (alike_then g [] edges v mid _ (alike_same g [] v mid mid.memory w.same) rest.alike);
          cells = rest.cells last ∙ updates_same g.snips edges (cells_in g.notes mid) mid v
              (sym (ap (λ (z : State). register_of z) w.same)) ∙ ap (λ z. updates g.snips edges z v) a.cells;
          here = λ _. record {
            valid = subst IsValid way.steps (run-valid t (count + rest.count) here.valid);
            live = lives;
            at = refl;
            npc = refl;
            slot = refl;
            memory = images_stored site mid _ rest.count rest.path.steps rest.stores w.has;
            target_in_page = λ taken out caseless.
                let z = w.target_in_page taken out caseless in
                (rest.target_in_page ∙ z.0, z.1, λ there. let y = z.2 there in (rest.told y.0).found ∙ y.1);
          };
          place = λ over. absurd (over (ap (λ (z : State). z.ending) w.same ∙ w.live));
          sparing = λ watched.
              let there = w.watched watched in
              let s = a.spares watched in
              let r = rest.told there in
              let both = count_add (is_spill g.notes) t mid count a.path.steps rest.count in
              let first = none_then in_first_word t mid count rest.count a.path.steps in
              search (arith, both, first, s.first, s.brief, a.alone, r.leaves_first, r.brief, behind.1, there);
        };
        first = λ _ none straight inside.
            let there = w.watched (record {
              jump = no_jump (instr_at g.text x.pc) straight;
              out = subst (NoneIsOut (graph_in g)) (sym none) tt;
              inside = inside;
            }) in
            let same_memory : rest.memory ≡ mid.memory =
            ap (λ (z : State). z.memory) (sym rest.path.steps ∙ ap (run mid) (behind.1 straight there none)) in
            ap (λ (m : Memory). memory_word m (page_word 0)) same_memory ∙ w.kept straight;
      }

  -- ---- the run ends

  -- The last of them ends it as the original's step does.
  pub record PastOver (v after : State) (last : ℕ) : Type 0 where
    pub past : Past [] v after (suc last)
    pub before : (run t last).ending ≡ None
    pub ending : Ending
    pub over : v.ending ≡ Some ending
    pub followed : IsFollowedBy (pages_of g.notes) (IsKept g [] v.window) v after
    pub there : IsThere g t after

  -- what is the same but for its place follows
  pub followed_same : (v after : State) → hopped v 0 after.memory ≡ hopped after 0 after.memory
      → v.memory ≡ after.memory → IsFollowedBy (pages_of g.notes) (IsKept g [] v.window) v after
  followed_same v after same memory = grind (arith, followed_alike, outside_refl, alike_same)

  pub ends_by : (v after : State) (last : ℕ) → PastOver v after last → ReachesNext site (gone_at g node x v) node x t v
  ends_by v after last w =
      let a = w.past in
      let over = w.over in
      let quiet = λ (j : ℕ) (some : 0 < j) (less : j < suc last).
      a.path.during j some less (lived_to t j last (omega arith) w.before) in
      rw (ended_none g node x v w.ending over) (record {
        on = record {
          count = suc last;
          after = after;
          path = search (arith, a.path.steps, a.few, quiet);
          puts = a.puts;
          followed = w.followed;
          cells = a.cells;
          here = λ live. absurd (cc);
          place = λ _. w.there;
          sparing = λ watched. let s = a.spares watched in search (arith, s.spills, s.first, s.brief, a.alone);
        };
        first = λ live _ _ _. absurd (cc);
      })

  -- ---- transfers, whose words store in the page alone

  pub record Moves (edges : List ℕ) (v mid : State) (count : ℕ) : Type 0 where
    pub transfer : (word : ℕ) × (word_of g.text x.pc ≡ Some word) × (is_transfer (decode_of word) ≡ true)
    pub path : Leads OnWay t mid count
    pub some : 0 < count
    pub few : count ≤ 14
    pub silent : IsSilent t count
    pub stores : Stores IsPageWord t.memory mid.memory
    pub spares : IsWatched (edit_in g) edges x v → IsSpared count

  -- so there is a transfer
  moving : {A : Type 0} {edges : List ℕ} {v mid : State} {count : ℕ} → Moves edges v mid count
      → is_transfer_at (instr_at g.text x.pc) ≡ false → A
  moving w straight = grind (arith, instr_is)

  pub moves_past : (edges : List ℕ) (v mid : State) (count : ℕ) → Moves edges v mid count → Past edges v mid count
  moves_past edges v mid count w =
      let puts : (descriptor : ℕ) → run_puts t count descriptor ≡ puts_on_word (at_point x t) (word_of g.text x.pc) descriptor =
      λ descriptor. rw (w.silent descriptor, w.transfer.1)
      (sym (quiet_transfer (at_point x t) (decode_of w.transfer.0) descriptor w.transfer.2)) in
      search (cells_above site IsPageWord page_above t.memory mid.memory here.memory.ours w.stores, moving {A = count ≡ 1} w)

  -- Where the run goes on
  pub record MovesOn (edges : List ℕ) (v mid : State) (count : ℕ) : Type 0 where
    pub moves : Moves edges v mid count
    pub same : hopped v 0 mid.memory ≡ hopped mid 0 mid.memory
    pub memory : v.memory ≡ t.memory
    pub live : mid.ending ≡ None
    pub npc : mid.npc ≡ mid.pc + 4
    pub slot : mid.slot ≡ NoSlot
    pub target_in_page : TargetInPage (word_at g.text v.pc) edges v mid.memory

  pub moves_by : (edges : List ℕ) (v mid : State) (count : ℕ) → LastDead g edges → MovesOn edges v mid count
      → (IsFit site mid → FollowsRoute site (word_at g.text v.pc) edges mid
      (entered_at site (node_after (graph_in g) node edges) (point_of v)) 8)
      → ReachesNext site edges node x t v
  moves_by edges v mid count last w onward =
      let a = w.moves in
      let own = own_stored site t.memory mid.memory a.stores in
      let outside : (n : Memory) → Stores (IsAmongWords f.stored) mid.memory n → IsSameOutside (pages_of g.notes) v.memory n =
      λ n stores. rw w.memory (same_stored site t.memory n here.memory
      (stores_then (IsAmongWords f.stored) (IsAmongWords f.stored) t.memory mid.memory n (λ z e. e) own stores)) in
      enters_by (word_at g.text v.pc) edges v mid count last (search (
        moves_past edges v mid count a,
        images_stored site t mid count a.path.steps own here.memory,
        λ (watched : IsWatched (edit_in g) edges x v). watched.inside,
        moving {A = saved_address mid ≡ saved_address t} a,
      )) (λ fit. (onward fit, moving a))

-- ---- through a Mark in which the words of a transfer stand, and on along the way behind it

module _ (visit : Visit) (head : Addr → ℕ → Head) (way : PieceNo)
    (c : IsMarked visit.site visit.node visit.x head [] (exits.Piece way)) (xs : List Instr)
    (same : head_items c.address (head c.address c.word) ≡ word_items xs) where
  open visit use {site, node, x, t, here, site.{g, place}}

  pub ahead : AtWords site node x t c.piece (length xs) (words_of xs)
  ahead = at_instrs visit head [] (exits.Piece way) c xs same

  abbrev shape : Shape
  shape = marked (record { address = c.address; node = number_in g node }) (head c.address c.word) [] (exits.Piece way)

  front : front_of shape ≡ suc (suc (length xs))
  front =
      ap (λ items. length (it.Mark c.address (number_in g node) ∷ (items ++ it.EndMark ∷ []))) same
      ∙ omega (arith, length-append (word_items xs) (it.EndMark ∷ []), length-map (words_of xs) it.Word, length-map xs encoded)

  -- past the words, and on along the way
  pub goes_through : (v : State) (m : Memory) (edges : List ℕ) → LastDead g edges
      → MovesOn visit edges v (past t (length xs) m v) (length xs) → LeadsTo site way edges (word_at g.text v.pc)
      (entered_at site (node_after (graph_in g) node edges) (point_of v)) → ReachesNext site edges node x t v
  goes_through v m edges last w leads =
      let to = entered_at site (node_after (graph_in g) node edges) (point_of v) in
      moves_by visit edges v (past t (length xs) m v) (length xs) last w (λ fit.
      jump_then site c.piece _ _ way c.shape edges _ (word_at g.text v.pc) to fit
      (sym ahead.behind ∙ ap (place c.piece) (sym front)) leads)
