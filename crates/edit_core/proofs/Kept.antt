-- What lives is kept: the code of a snippet takes only what isn't live behind it, and what a snippet makes of the cells
-- depends on the registers alone that it names.
use Rattle.edit_core.proofs.Common.{◌≡◌, ℕ, zero, suc, ◌<◌, inl, inr, true, List, [], ◌∷◌, length, slice_index, refl, ap, sym, ◌∙◌, arith, All, and_parts, cases_lt, or_left, or_right, get_or_past, Part, has, is_member, set_of, place_of, place_of-below, place_of-some, State, IsAmong, StateItem, Register, run, end_of_walk, goes_on_at, gone_in, point_of, IsLiveOn, named_on, Op, named_by, EditSetup, graph_in, snippet_on, updates, Contains, has-members, is_same-self, register_of, item_of, read_by, update, IsKept, AreDead, KeepsWhatLives}
use Rattle.v8_decode.specs.declared.Part.TheVariants.{Reg}
use Rattle.live_walk.specs.Keeps.{IsKeptBehind, Keeps}
use Rattle.live_walk.proofs.Keeps.{what_lives_is_kept}
use Rattle.snippets.specs.Grammar.{IsOp}
use Rattle.snippets.proofs.Decide.{decide}
use Rattle.edit_core.proofs.Completed.{Completes, gone_completes, none, one, two, unknown_lives}

-- ---- what snippets make of cells depends on the registers alone that they name

updates_same : (snips : List (List Op)) → All (All IsOp) snips → (edges cells : List ℕ) (s v : State)
    → ((edge : ℕ) → Contains edges edge → (reg : ℕ) → has (named_by (snippet_on snips edge)) (Reg reg) ≡ true
    → register_of s reg ≡ register_of v reg) → updates snips edges cells s ≡ updates snips edges cells v
updates_same snips are [] cells s v same = refl
updates_same snips are (edge ∷ edges) cells s v same =
    ap (λ (now : List ℕ). updates snips edges now s)
    (decide (register_of s) (register_of v) (snippet_on snips edge) cells (elim (cases_lt edge (length snips)) [
      | inl within ↦ are edge [] within
      | inr past ↦ rw (get_or_past snips edge [] past) (λ k d l. absurd (omega (arith, l)))
    ]) refl
    (same edge (0, omega arith, refl)))
    ∙ updates_same snips are edges (update (register_of v) (snippet_on snips edge) cells) s v
    (λ other c. let l = c.1 in same other (suc c.0, omega (arith, l), c.2))

-- ---- what is dead isn't kept

-- one of the parts that name the item
name_among : (item : StateItem) (window : ℕ) (parts : List Part) → IsAmong item window parts
    → (part : Part) × (has parts part ≡ true) × (item ≡ item_of window part)
name_among item window [] among = absurd among
name_among item window (p ∷ ps) (inl is) = (p, or_left _ _ (is_same-self p), sym is)
name_among item window (p ∷ ps) (inr among) =
    let rest = name_among item window ps among in
    (rest.0, or_right _ _ rest.1, rest.2)

module _ (g : EditSetup) (dead : AreDead g.text (graph_in g) (named_on g.snips) g.dead) (item : StateItem) (window : ℕ) where
  -- no part that is dead behind an edge names an item that only live ones name
  not_dead : (e : ℕ) → e < length (graph_in g).edges
      → ((p : Part) → is_member p ≡ true → ¬ IsLiveOn g.text (graph_in g) (named_on g.snips) e p
      → item ≡ item_of window p → ⊥)
      → IsAmong item window (g.dead e) → ⊥
  not_dead e within live among =
      let name = name_among item window (g.dead e) among in
      let at : has (set_of (g.dead e)) name.0 ≡ true = rw (dead.sets e within) name.1 in
      let member = (and_parts _ _ (sym (has-members (has (g.dead e)) name.0) ∙ at)).0 in
      live name.0 member ((dead.all e within name.0 member).0 name.1) name.2

  kept_by : (edges : List ℕ) → Completes (graph_in g) edges
      → IsKeptBehind g.text (graph_in g) (named_on g.snips) edges window item → IsKept g edges window item
  kept_by _ none behind = tt
  kept_by _ (one e within) behind = (not_dead e within (behind [] e refl), tt)
  kept_by _ (two e f within unknown other apart) behind =
      let all = unknown_lives g.text (graph_in g) (named_on g.snips) e unknown in
      (not_dead e within (λ p member live same. live (all p member)), (not_dead f other (behind (e ∷ []) f refl), tt))

pub keeps_what_lives : KeepsWhatLives
keeps_what_lives g entry s0 text fetches begins opened jumps dead are =
    let keeps : Keeps g.text (graph_in g) (named_on g.snips) entry s0 =
    what_lives_is_kept g.text g.given g.switches entry s0 (named_on g.snips) text fetches begins opened jumps in
    record {
      reads = λ n item is live r. keeps.reads n item live is r;
      back = keeps.back;
      live = λ n item k.
          kept_by g dead item (run s0 (suc n)).window (gone_in g.text (graph_in g) entry s0 n)
          (gone_completes (graph_in g) g.text (end_of_walk g.text (graph_in g) entry s0 n) (point_of (run s0 n))
          (goes_on_at (run s0 (suc n)))) (keeps.live n item k);
      needed = keeps.needed;
      named = λ n cells v live window same.
          updates_same g.snips are (gone_in g.text (graph_in g) entry s0 n) cells (run s0 (suc n)) v (λ edge gone reg.
          elim reg as (λ (reg : ℕ). has (named_by (snippet_on g.snips edge)) (Reg reg) ≡ true
          → register_of (run s0 (suc n)) reg ≡ register_of v reg) [
            | zero ↦ λ named. refl
            | suc r ↦ λ named.
                let w = (run s0 (suc n)).window in
                let has_it = sym (has-members (has (read_by (snippet_on g.snips edge))) (Reg (suc r))) ∙ named in
                same (Register (place_of w (suc r))) (place_of-some w (suc r) (λ e. absurd (cc)), place_of-below w (suc r))
                (keeps.named_items n edge (Reg (suc r)) gone (and_parts _ _ has_it).0 named)
                ∙ ap (λ (w : ℕ). slice_index v.registers (place_of w (suc r))) window
          ]);
    }
