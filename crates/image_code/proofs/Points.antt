-- Where machines stand at the visits of points, and what a step from there promises.
use Rattle.image_code.proofs.Common.{◌≡◌, ◌≢◌, ℕ, false, Option, None, List, [], word_at, Node, Slot, State, Placement, Point, saved_address, instr_at, Shape, assembled, HasShortForms, is_transfer_at, EditSetup, StepsOn, does_at, gone_at, Pieces, EditorData, place_by, AtVisit, AtPointBy, IsPlaced}

abbrev pub visited_by : EditSetup → Pieces → Placement → EditorData → Node → Point → Option ℕ → Slot → ℕ
visited_by g l = place_by l.image g l

-- Pieces, by their shapes, where they are placed, for a set-up. (`g l base p place f` is written out where another crate
-- says it.)
pub record Site : Type 0 where
  pub g : EditSetup
  pub l : Pieces
  pub shapes : List Shape
  pub made : l.list ≡ assembled l.codes shapes
  pub base : ℕ
  pub p : Placement
  pub place : ℕ → ℕ → ℕ
  pub f : EditorData
  pub placed : IsPlaced g l base p place f

-- the address at which the written file visits the point
abbrev pub visited_at : Site → Node → Point → ℕ
visited_at site node x = place_by site.l.image site.g site.l site.p site.f node x (word_at site.g.text x.pc) x.slot

-- the address at which control enters the piece of the point: before the load of an open switch its address is kept
abbrev pub entered_at : Site → Node → Point → ℕ
entered_at site node x = place_by site.l.enter site.g site.l site.p site.f node x (word_at site.g.text x.pc) x.slot

abbrev pub AtVisitIn : Site → Node → Point → State → Type 0
AtVisitIn site node x t = AtVisit site.g site.l site.base site.p site.f node x t

-- A machine at a point's visit.
pub record Visit : Type 0 where
  pub site : Site
  pub node : Node
  pub x : Point
  pub t : State
  pub here : AtVisitIn site node x t

-- where control comes to it
abbrev pub AtEntryIn : Site → Node → Point → State → Type 0
AtEntryIn site node x t = AtPointBy site.l.enter site.g site.l site.base site.p site.f node x t

-- no Jump and no Branch is long
abbrev pub Forms : Site → Type 0
Forms site = HasShortForms site.l.list site.place

-- What one image does, up to where control enters the next one. Three steps are left, in which an address may be kept.
-- Within a block word 0 of the page stays as it is.
pub record ReachesNext (site : Site) (edges : List ℕ) (node : Node) (x : Point) (t v : State) : Type 0 where
  pub on : StepsOn site.g (AtEntryIn site) (Forms site) 61 edges node x t v
  pub first : v.ending ≡ None → edges ≡ [] → is_transfer_at (instr_at site.g.text x.pc) ≡ false
      → word_at site.g.text v.pc ≢ None → saved_address on.after ≡ saved_address t

-- where the original's step leads
abbrev pub StepsFrom : Site → Node → Point → State → Type 0
StepsFrom site node x t = let v = does_at site.g x t in ReachesNext site (gone_at site.g node x v) node x t v
