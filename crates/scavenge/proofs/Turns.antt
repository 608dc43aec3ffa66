-- Picked registers are put into an array one by one.
use Rattle.std.proofs.Common.{◌≡◌, ℕ, ◌<◌, ◌≤◌, List, length, take, map, get_or, ap, sym, ◌∙◌, subst, arith}
use Rattle.std.proofs.lemmas.Grind.{get_or_default_zero}
use Rattle.std.proofs.lemmas.List.{map-id}
use Rattle.v8_decode.specs.declared.Part.{Part}
use Rattle.scavenge.specs.Code.{picked, register_count, ArePicked}
use Rattle.scavenge.specs.Picks.{spills}
use Rattle.scavenge.proofs.Picks.{are_picked}

-- one of the picked registers, by its number among them
pub record IsTurn (n at want : ℕ) : Type 0 where
  pub below : n < 32
  pub inside : at < want

pub is_turn : (dead avoid : List Part) (want n at : ℕ) → register_count avoid ≤ 8 → want ≤ 5
    → (at < length (picked dead avoid want)) × (n ≡ get_or (picked dead avoid want) at n) → IsTurn n at want
is_turn dead avoid want n at few low h =
    let p = are_picked dead avoid want few low in
    let inside : at < want = (let a = h.0 in let b = p.count in omega arith) in
    record {
      below = subst (λ z. z < 32) (sym (h.1 ∙ get_or_default_zero (picked dead avoid want) at n h.0))
          (p.below at inside);
      inside = inside;
    }

-- all of them were put there
pub are_all : (dead avoid : List Part) (want found : ℕ) (regs yielded : List ℕ) → register_count avoid ≤ 8 → want ≤ 5
    → found ≡ length yielded → take found regs ≡ yielded
    → (map (λ x. x) yielded ≡ picked dead avoid want) × (length yielded ≡ length (picked dead avoid want))
    → take want regs ≡ picked dead avoid want
are_all dead avoid want found regs yielded few low size is h =
    let p = are_picked dead avoid want few low in
    ap (λ n. take n regs) (let e : want ≡ found = (let a = p.count in let b = h.1 in omega arith) in e)
    ∙ is ∙ sym (map-id yielded) ∙ h.0

pub are_picked_in : (dead avoid : List Part) (want spilled : ℕ) (regs : List ℕ) → register_count avoid ≤ 8 → want ≤ 5
    → take want regs ≡ picked dead avoid want → spilled ≡ spills dead avoid want
    → ArePicked dead avoid want (take want regs) spilled
are_picked_in dead avoid want spilled regs few low is e =
    rw (is, e) (are_picked dead avoid want few low)
