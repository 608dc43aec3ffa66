-- All registers, where those of the current window are in an array of their own.
use Rattle.std.proofs.Common.{◌≡◌, ◌≢◌, ℕ, zero, suc, ◌+◌, ◌-◌, ◌*◌, ◌%◌, ◌<◌, ◌≤◌, ◌⊎◌, inl, inr, List, length, replicate, refl, ap, sym, ◌∙◌, arith, length-set, get_or-set_other, get_or-set_same, zero-add}
use Rattle.std.specs.Prelude.{slice_index, slice_set}
use Rattle.std.proofs.lemmas.Bool.{cases_eq, cases_lt, lt-ltb, le-ltb}
use Rattle.std.proofs.lemmas.List.FromFn.{fill_by_all, get_or-map-range_with_len, length-map-range_with_len}
use Rattle.v8_windows.specs.Registers.{place_of, register_in, register_set, window_after, window_before}
use Rattle.v8_windows.specs.Private.{IsCopied}
use Rattle.v8_windows.specs.Calls.{after_outs, registers_seen, seen_at}
use Rattle.v8_windows.proofs.Places.{place_of-below, written_in_place}

-- ---- what is at each place

pub length-seen : (current others : List ℕ) (window : ℕ) → length (registers_seen current others window) ≡ 136
unfolding registers_seen
length-seen current others window = length-map-range_with_len (seen_at current others window) 0 136

pub seen : (current others : List ℕ) (window place : ℕ) → place < 136
    → slice_index (registers_seen current others window) place ≡ seen_at current others window place
unfolding registers_seen
seen current others window place below =
    get_or-map-range_with_len (seen_at current others window) 0 136 place place 0 below (omega arith)

-- a list that has at each place what is seen there
pub as_seen : (current others : List ℕ) (window : ℕ) (registers : List ℕ) → length registers ≡ 136
    → ((place : ℕ) → place < 136 → slice_index registers place ≡ seen_at current others window place)
    → registers ≡ registers_seen current others window
unfolding registers_seen
as_seen current others window registers count h = fill_by_all (seen_at current others window) registers 136 0 count h

at_global : (current others : List ℕ) (window place : ℕ) → place < 8
    → seen_at current others window place ≡ slice_index current place
at_global current others window place low = rw (lt-ltb place 8 low)

at_own : (current others : List ℕ) (window place : ℕ) → 8 ≤ place → after_outs window place < 24
    → seen_at current others window place ≡ slice_index current (8 + after_outs window place)
at_own current others window place high own = rw (le-ltb place 8 high, lt-ltb (after_outs window place) 24 own)

at_other : (current others : List ℕ) (window place : ℕ) → 8 ≤ place → 24 ≤ after_outs window place
    → seen_at current others window place ≡ slice_index others place
at_other current others window place high away = rw (le-ltb place 8 high, le-ltb (after_outs window place) 24 away)

-- ---- where the registers of the window stand

place_low : (window r : ℕ) → r < 8 → place_of window r ≡ r
place_low window r low = rw (lt-ltb r 8 low)

place_high : (window r : ℕ) → 8 ≤ r → place_of window r ≡ 8 + (16 * window + (r - 8)) % 128
place_high window r high = rw (le-ltb r 8 high)

-- from a number behind the outs to the place, and back
behind : (window k : ℕ) → window < 8 → k < 128 → after_outs window (8 + (16 * window + k) % 128) ≡ k
behind window k w below = omega arith

back : (window place : ℕ) → window < 8 → 8 ≤ place → place < 136
    → 8 + (16 * window + after_outs window place) % 128 ≡ place
back window place w high below = omega arith

register_is : (current others : List ℕ) (window r : ℕ) → window < 8 → r < 32
    → seen_at current others window (place_of window r) ≡ slice_index current r
register_is current others window r w below = elim (cases_lt r 8) [
  | inl low ↦ rw (place_low window r low) (at_global current others window r low)
  | inr high ↦
      let k : after_outs window (8 + (16 * window + (r - 8)) % 128) ≡ r - 8 = behind window (r - 8) w (omega arith) in
      rw (place_high window r high)
      (at_own current others window (8 + (16 * window + (r - 8)) % 128) (omega arith) (omega (arith, k))
      ∙ ap (slice_index current) (omega (arith, k)))
]

pub register_seen : (current others : List ℕ) (window r : ℕ) → slice_index current 0 ≡ 0 → window < 8 → r < 32
    → slice_index current r ≡ register_in (registers_seen current others window) window r
register_seen current others window zero is_zero w below = is_zero
register_seen current others window (suc r) is_zero w below =
    sym (seen current others window (place_of window (suc r)) (place_of-below window (suc r))
    ∙ register_is current others window (suc r) w below)

-- ---- a register that is written

other_seen : (current others : List ℕ) (window r value place : ℕ) → window < 8 → r < 32 → place < 136
    → place ≢ place_of window r
    → seen_at current others window place ≡ seen_at (slice_set current r value) others window place
other_seen current others window r value place w below within apart = go (cases_lt place 8)
  where
    own : 8 ≤ place → after_outs window place < 24 → 8 + after_outs window place ≢ r
    own high k same =
        apart (sym (place_high window r (omega (arith, same)) ∙ ap (λ n. 8 + (16 * window + n) % 128) (omega (arith, same))
        ∙ back window place w high within))

    past : 8 ≤ place → (after_outs window place < 24) ⊎ (24 ≤ after_outs window place)
        → seen_at current others window place ≡ seen_at (slice_set current r value) others window place
    past high (inl k) =
        at_own current others window place high k
        ∙ sym (get_or-set_other current r (8 + after_outs window place) value 0 (own high k))
        ∙ sym (at_own (slice_set current r value) others window place high k)
    past high (inr k) =
        at_other current others window place high k
        ∙ sym (at_other (slice_set current r value) others window place high k)

    go : (place < 8) ⊎ (8 ≤ place)
        → seen_at current others window place ≡ seen_at (slice_set current r value) others window place
    go (inl low) =
        at_global current others window place low
        ∙ sym (get_or-set_other current r place value 0
        (λ same. apart (same ∙ sym (place_low window r (omega (arith, same, low))))))
        ∙ sym (at_global (slice_set current r value) others window place low)
    go (inr high) = past high (cases_lt (after_outs window place) 24)

pub set_seen : (current others : List ℕ) (window r value : ℕ) → length current ≡ 32 → window < 8 → r < 32 → r ≢ 0
    → registers_seen (slice_set current r value) others window
    ≡ register_set (registers_seen current others window) window r value
set_seen current others window r value count w below some =
    sym (as_seen (slice_set current r value) others window (slice_set all (place_of window r) value)
    (length-set all (place_of window r) value ∙ length-seen current others window)
    (λ place within. each place within (cases_eq place (place_of window r))))
    ∙ written_in_place all window r value some
  where
    all : List ℕ
    all = registers_seen current others window

    each : (place : ℕ) → place < 136 → (place ≡ place_of window r) ⊎ (place ≢ place_of window r)
        → slice_index (slice_set all (place_of window r) value) place
        ≡ seen_at (slice_set current r value) others window place
    each place within (inl same) =
        rw same
        (get_or-set_same all (place_of window r) value 0 (rw (length-seen current others window) (place_of-below window r))
        ∙ sym (get_or-set_same current r value 0 (rw count below))
        ∙ sym (register_is (slice_set current r value) others window r w below))
    each place within (inr apart) =
        get_or-set_other all (place_of window r) place value 0 apart
        ∙ seen current others window place within
        ∙ other_seen current others window r value place w below within apart

-- ---- all registers of a window

-- the window's registers are put away
pub put_away_seen : (current old first second new : List ℕ) (window : ℕ) → window < 8 → length new ≡ 136
    → IsCopied 0 0 8 current old first → IsCopied (8 + 16 * window) 8 16 current first second
    → IsCopied (8 + 16 * ((window + 1) % 8)) 24 8 current second new
    → new ≡ registers_seen current old window
put_away_seen current old first second new window w count globals outs ins =
    as_seen current old window new count (λ place within. each place within (cases_lt place 8))
  where
    next : ℕ
    next = 8 + 16 * ((window + 1) % 8)

    beside : (place : ℕ) → (place < next) ⊎ (next ≤ place) → 8 ≤ place → place < 136
        → (after_outs window place < 16) ⊎ (24 ≤ after_outs window place)
        → slice_index new place ≡ slice_index second place
    beside place (inl low) high within k = ins.below place low
    beside place (inr up) high within k = ins.above place (omega (arith, up, high, within, k, w))

    far : (place : ℕ) → (place < 8 + 16 * window) ⊎ (8 + 16 * window ≤ place) → 8 ≤ place → place < 136
        → 24 ≤ after_outs window place → slice_index second place ≡ slice_index first place
    far place (inl low) high within k = outs.below place low
    far place (inr up) high within k = outs.above place (omega (arith, up, high, within, k, w))

    past : (place : ℕ) → 8 ≤ place → place < 136
        → (after_outs window place < 16) ⊎ (16 ≤ after_outs window place)
        → (after_outs window place < 24) ⊎ (24 ≤ after_outs window place)
        → slice_index new place ≡ seen_at current old window place
    past place high within (inl k) q =
        let at : place ≡ 8 + 16 * window + after_outs window place = omega (arith, high, within, k, w) in
        beside place (cases_lt place next) high within (inl k)
        ∙ ap (slice_index second) at ∙ outs.inside (after_outs window place) k
        ∙ sym (at_own current old window place high (omega (arith, k)))
    past place high within (inr k) (inl own) =
        let at : place ≡ next + (after_outs window place - 16) = omega (arith, high, within, k, own, w) in
        ap (slice_index new) at ∙ ins.inside (after_outs window place - 16) (omega (arith, k, own))
        ∙ ap (slice_index current) (omega (arith, k)) ∙ sym (at_own current old window place high own)
    past place high within (inr k) (inr away) =
        beside place (cases_lt place next) high within (inr away)
        ∙ far place (cases_lt place (8 + 16 * window)) high within away
        ∙ globals.above place high ∙ sym (at_other current old window place high away)

    each : (place : ℕ) → place < 136 → (place < 8) ⊎ (8 ≤ place)
        → slice_index new place ≡ seen_at current old window place
    each place within (inl low) =
        ins.below place (omega (arith, low)) ∙ outs.below place (omega (arith, low))
        ∙ (rw zero-add at (globals.inside place low)) ∙ sym (at_global current old window place low)
    each place within (inr high) =
        past place high within (cases_lt (after_outs window place) 16) (cases_lt (after_outs window place) 24)

-- and brought back
pub bring_seen : (registers old first second new : List ℕ) (window : ℕ) → window < 8 → length registers ≡ 136
    → IsCopied 0 0 8 registers old first → IsCopied 8 (8 + 16 * window) 16 registers first second
    → IsCopied 24 (8 + 16 * ((window + 1) % 8)) 8 registers second new
    → registers_seen new registers window ≡ registers
bring_seen registers old first second new window w count globals outs ins =
    sym (as_seen new registers window registers count (λ place within. each place within (cases_lt place 8)))
  where
    next : ℕ
    next = 8 + 16 * ((window + 1) % 8)

    past : (place : ℕ) → 8 ≤ place → place < 136
        → (after_outs window place < 16) ⊎ (16 ≤ after_outs window place)
        → (after_outs window place < 24) ⊎ (24 ≤ after_outs window place)
        → slice_index registers place ≡ seen_at new registers window place
    past place high within (inl k) q =
        let at : 8 + 16 * window + after_outs window place ≡ place = omega (arith, high, within, k, w) in
        sym (at_own new registers window place high (omega (arith, k))
        ∙ ins.below (8 + after_outs window place) (omega (arith, k)) ∙ outs.inside (after_outs window place) k
        ∙ ap (slice_index registers) at)
    past place high within (inr k) (inl own) =
        let at : next + (after_outs window place - 16) ≡ place = omega (arith, high, within, k, own, w) in
        sym (at_own new registers window place high own ∙ ap (slice_index new) (omega (arith, k))
        ∙ ins.inside (after_outs window place - 16) (omega (arith, k, own)) ∙ ap (slice_index registers) at)
    past place high within (inr k) (inr away) = sym (at_other new registers window place high away)

    each : (place : ℕ) → place < 136 → (place < 8) ⊎ (8 ≤ place)
        → slice_index registers place ≡ seen_at new registers window place
    each place within (inl low) =
        sym (at_global new registers window place low ∙ ins.below place (omega (arith, low))
        ∙ outs.below place (omega (arith, low)) ∙ (rw zero-add at (globals.inside place low)))
    each place within (inr high) =
        past place high within (cases_lt (after_outs window place) 16) (cases_lt (after_outs window place) 24)

-- ---- to the window before, and the one after

pub copied_through : (at start : ℕ) (words none held old new : List ℕ) → IsCopied 0 start 8 words none held
    → IsCopied at 0 8 held old new → IsCopied at start 8 words old new
copied_through at start words none held old new taken put = record {
  inside = λ k low. put.inside k low ∙ taken.inside k low;
  below = put.below;
  above = put.above;
}

-- how far a place is behind the outs of the window before, and of the one after
behind_before : (window place : ℕ) → window < 8 → 8 ≤ place → place < 136
    → after_outs (window_before window) place ≡ (after_outs window place + 16) % 128
behind_before window place w high within = omega arith

behind_after : (window place : ℕ) → window < 8 → 8 ≤ place → place < 136
    → after_outs (window_after window) place ≡ (after_outs window place + 112) % 128
behind_after window place w high within = omega arith

same_seen : (current others : List ℕ) (window : ℕ) (new kept : List ℕ) (other : ℕ)
    → ((place : ℕ) → place < 136 → seen_at current others window place ≡ seen_at new kept other place)
    → registers_seen new kept other ≡ registers_seen current others window
same_seen current others window new kept other h =
    sym (as_seen new kept other (registers_seen current others window) (length-seen current others window)
    (λ place within. seen current others window place within ∙ h place within))

-- locals and ins are put away, the outs are ins, and outs and locals are brought
pub before_seen : (current others put kept shifted new : List ℕ) (window : ℕ) → window < 8
    → IsCopied (8 + 16 * window + 8) 16 8 current others put
    → IsCopied (8 + 16 * ((window + 1) % 8)) 24 8 current put kept → IsCopied 24 8 8 current current shifted
    → IsCopied 8 (8 + 16 * window_before window) 16 kept shifted new
    → registers_seen new kept (window_before window) ≡ registers_seen current others window
before_seen current others put kept shifted new window w locals ins outs brought =
    same_seen current others window new kept (window_before window)
    (λ place within. each place within (cases_lt place 8))
  where
    next : ℕ
    next = 8 + 16 * ((window + 1) % 8)

    beside : (place : ℕ) → (place < next) ⊎ (next ≤ place) → 8 ≤ place → place < 136
        → (after_outs window place < 16) ⊎ (24 ≤ after_outs window place) → slice_index kept place ≡ slice_index put place
    beside place (inl low) high within k = ins.below place low
    beside place (inr up) high within k = ins.above place (omega (arith, up, high, within, k, w))

    far : (place : ℕ) → (place < 8 + 16 * window + 8) ⊎ (8 + 16 * window + 8 ≤ place) → 8 ≤ place → place < 136
        → 24 ≤ after_outs window place → slice_index put place ≡ slice_index others place
    far place (inl low) high within k = locals.below place low
    far place (inr up) high within k = locals.above place (omega (arith, up, high, within, k, w))

    away : (place : ℕ) → 8 ≤ place → place < 136 → 24 ≤ after_outs window place
        → slice_index kept place ≡ slice_index others place
    away place high within k =
        beside place (cases_lt place next) high within (inr k)
        ∙ far place (cases_lt place (8 + 16 * window + 8)) high within k

    past : (place : ℕ) → 8 ≤ place → place < 136
        → after_outs (window_before window) place ≡ (after_outs window place + 16) % 128
        → (after_outs window place < 8) ⊎ (8 ≤ after_outs window place)
        → (after_outs window place < 16) ⊎ (16 ≤ after_outs window place)
        → (after_outs window place < 24) ⊎ (24 ≤ after_outs window place)
        → (after_outs window place < 112) ⊎ (112 ≤ after_outs window place)
        → seen_at current others window place ≡ seen_at new kept (window_before window) place
    past place high within at (inl k) q r t =
        at_own current others window place high (omega (arith, k)) ∙ sym (outs.inside (after_outs window place) k)
        ∙ ap (slice_index shifted) (omega (arith, at, k))
        ∙ sym (brought.above (8 + after_outs (window_before window) place) (omega (arith, at, k)))
        ∙ sym (at_own new kept (window_before window) place high (omega (arith, at, k)))
    past place high within at (inr low) (inl k) r t =
        let here : 8 + 16 * window + 8 + (after_outs window place - 8) ≡ place = omega (arith, high, within, low, k, w) in
        at_own current others window place high (omega (arith, k))
        ∙ ap (slice_index current) (omega (arith, low)) ∙ sym (locals.inside (after_outs window place - 8) (omega (arith, k, low)))
        ∙ ap (slice_index put) here
        ∙ sym (beside place (cases_lt place next) high within (inl k))
        ∙ sym (at_other new kept (window_before window) place high (omega (arith, at, low, k)))
    past place high within at (inr low) (inr more) (inl k) t =
        let here : next + (after_outs window place - 16) ≡ place = omega (arith, high, within, more, k, w) in
        at_own current others window place high k
        ∙ ap (slice_index current) (omega (arith, more)) ∙ sym (ins.inside (after_outs window place - 16) (omega (arith, k, more)))
        ∙ ap (slice_index kept) here
        ∙ sym (at_other new kept (window_before window) place high (omega (arith, at, more, k)))
    past place high within at (inr low) (inr more) (inr k) (inl few) =
        at_other current others window place high k ∙ sym (away place high within k)
        ∙ sym (at_other new kept (window_before window) place high (omega (arith, at, k, few)))
    past place high within at (inr low) (inr more) (inr k) (inr many) =
        let here : 8 + 16 * window_before window + after_outs (window_before window) place ≡ place =
        omega (arith, at, high, within, many, w) in
        at_other current others window place high k ∙ sym (away place high within k)
        ∙ ap (slice_index kept) (sym here)
        ∙ sym (brought.inside (after_outs (window_before window) place) (omega (arith, at, many)))
        ∙ sym (at_own new kept (window_before window) place high (omega (arith, at, many)))

    each : (place : ℕ) → place < 136 → (place < 8) ⊎ (8 ≤ place)
        → seen_at current others window place ≡ seen_at new kept (window_before window) place
    each place within (inl low) =
        at_global current others window place low ∙ sym (outs.below place (omega (arith, low)))
        ∙ sym (brought.below place low) ∙ sym (at_global new kept (window_before window) place low)
    each place within (inr high) =
        past place high within (behind_before window place w high within) (cases_lt (after_outs window place) 8)
        (cases_lt (after_outs window place) 16) (cases_lt (after_outs window place) 24)
        (cases_lt (after_outs window place) 112)

-- outs and locals are put away, the ins are outs, and locals and ins are brought
pub after_seen : (current others kept shifted held new : List ℕ) (window : ℕ) → window < 8
    → IsCopied (8 + 16 * window) 8 16 current others kept → IsCopied 8 24 8 current current shifted
    → IsCopied 16 (8 + 16 * window_after window + 8) 8 kept shifted held
    → IsCopied 24 (8 + 16 * ((window + 2) % 8)) 8 kept held new
    → registers_seen new kept (window_after window) ≡ registers_seen current others window
after_seen current others kept shifted held new window w outs ins locals brought =
    same_seen current others window new kept (window_after window)
    (λ place within. each place within (cases_lt place 8))
  where
    away : (place : ℕ) → (place < 8 + 16 * window) ⊎ (8 + 16 * window ≤ place) → 8 ≤ place → place < 136
        → 16 ≤ after_outs window place → slice_index kept place ≡ slice_index others place
    away place (inl low) high within k = outs.below place low
    away place (inr up) high within k = outs.above place (omega (arith, up, high, within, k, w))

    past : (place : ℕ) → 8 ≤ place → place < 136
        → after_outs (window_after window) place ≡ (after_outs window place + 112) % 128
        → (after_outs window place < 16) ⊎ (16 ≤ after_outs window place)
        → (after_outs window place < 24) ⊎ (24 ≤ after_outs window place)
        → (after_outs window place < 32) ⊎ (32 ≤ after_outs window place)
        → (after_outs window place < 40) ⊎ (40 ≤ after_outs window place)
        → seen_at current others window place ≡ seen_at new kept (window_after window) place
    past place high within at (inl k) q r t =
        let here : 8 + 16 * window + after_outs window place ≡ place = omega (arith, high, within, k, w) in
        at_own current others window place high (omega (arith, k)) ∙ sym (outs.inside (after_outs window place) k)
        ∙ ap (slice_index kept) here
        ∙ sym (at_other new kept (window_after window) place high (omega (arith, at, k)))
    past place high within at (inr low) (inl k) r t =
        at_own current others window place high k
        ∙ ap (slice_index current) (omega (arith, low)) ∙ sym (ins.inside (after_outs window place - 16) (omega (arith, k, low)))
        ∙ ap (slice_index shifted) (omega (arith, at, low, k))
        ∙ sym (locals.below (8 + after_outs (window_after window) place) (omega (arith, at, low, k)))
        ∙ sym (brought.below (8 + after_outs (window_after window) place) (omega (arith, at, low, k)))
        ∙ sym (at_own new kept (window_after window) place high (omega (arith, at, low, k)))
    past place high within at (inr low) (inr more) (inl k) t =
        let here : 8 + 16 * window_after window + 8 + (after_outs window place - 24) ≡ place =
        omega (arith, high, within, more, k, w) in
        at_other current others window place high more
        ∙ sym (away place (cases_lt place (8 + 16 * window)) high within low)
        ∙ ap (slice_index kept) (sym here) ∙ sym (locals.inside (after_outs window place - 24) (omega (arith, k, more)))
        ∙ ap (slice_index held) (omega (arith, at, more, k))
        ∙ sym (brought.below (8 + after_outs (window_after window) place) (omega (arith, at, more, k)))
        ∙ sym (at_own new kept (window_after window) place high (omega (arith, at, more, k)))
    past place high within at (inr low) (inr more) (inr least) (inl k) =
        let here : 8 + 16 * ((window + 2) % 8) + (after_outs window place - 32) ≡ place =
        omega (arith, high, within, least, k, w) in
        at_other current others window place high more
        ∙ sym (away place (cases_lt place (8 + 16 * window)) high within low)
        ∙ ap (slice_index kept) (sym here) ∙ sym (brought.inside (after_outs window place - 32) (omega (arith, k, least)))
        ∙ ap (slice_index new) (omega (arith, at, least, k))
        ∙ sym (at_own new kept (window_after window) place high (omega (arith, at, least, k)))
    past place high within at (inr low) (inr more) (inr least) (inr k) =
        at_other current others window place high more
        ∙ sym (away place (cases_lt place (8 + 16 * window)) high within low)
        ∙ sym (at_other new kept (window_after window) place high (omega (arith, at, k, high, within, w)))

    each : (place : ℕ) → place < 136 → (place < 8) ⊎ (8 ≤ place)
        → seen_at current others window place ≡ seen_at new kept (window_after window) place
    each place within (inl low) =
        at_global current others window place low ∙ sym (ins.below place low) ∙ sym (locals.below place (omega (arith, low)))
        ∙ sym (brought.below place (omega (arith, low))) ∙ sym (at_global new kept (window_after window) place low)
    each place within (inr high) =
        past place high within (behind_after window place w high within) (cases_lt (after_outs window place) 16)
        (cases_lt (after_outs window place) 24) (cases_lt (after_outs window place) 32)
        (cases_lt (after_outs window place) 40)

-- ---- at first

pub zeros_seen : registers_seen (replicate 32 0) (replicate 136 0) 0 ≡ replicate 136 0
unfolding registers_seen
zeros_seen = refl
