-- The ring of a walk: how it begins, grows and is read.
use Rattle.edge_ring.proofs.Common.{◌≡◌, ℕ, zero, suc, ◌+◌, ◌-◌, ◌%◌, ◌^◌, ◌<◌, ◌≤◌, List, [], ◌∷◌, ◌++◌, length, map, take, drop, replicate, refl, ap, sym, ◌∙◌, subst, arith, filter_map, append-nil, append_assoc, length-drop, update, IsRingOf, edge_in, edges_in, last_of, ring_on, round_from, inl, inr, ap₂, ◌*◌, ◌/◌, set, cases_lt, drop-append-le, drop-drop, drop-map, drop-set-lt, drop_all, length-append, length-replicate, length-set, map-append, take_all, take_more_set, filter_map-append, mod-mod-pow, drop-nil, WorksBelow, place_in, AllRingsKeepTheLast}
use Rattle.std.proofs.lemmas.Nat.{pow_pos}
use Rattle.std.proofs.Math.Nat.{add-mul-mod_self_left, div-add-mod, mod-eq_of_lt, mod-lt, mod_self, zero-mod}

-- ---- numbers

-- the count modulo 2^32 tells the next place
place_of_count : (bits n : ℕ) → bits ≤ 16 → n % 2 ^ 32 % 2 ^ bits ≡ n % 2 ^ bits
place_of_count bits n few =
    let whole : (32 - bits) + bits ≡ 32 = omega (arith, few) in
    subst (λ (w : ℕ). n % 2 ^ w % 2 ^ bits ≡ n % 2 ^ bits) whole (mod-mod-pow n (32 - bits) bits)

next_of : (size n : ℕ) → (n + 1) % size ≡ (n % size + 1) % size
next_of size n =
    let whole = div-add-mod n size in
    let parts : n + 1 ≡ (n % size + 1) + size * (n / size) = omega (arith, whole) in
    ap (λ (m : ℕ). m % size) parts ∙ add-mul-mod_self_left (n % size + 1) size (n / size)

-- ---- a place is filled, and the next one is the oldest

-- round from the place behind it, the oldest is gone and the new one is last
filled : (places : List ℕ) (place new : ℕ) → place < length places
    → round_from (place + 1) (set places place new) ≡ drop 1 (round_from place places) ++ new ∷ []
filled places place new inside =
    let rest : 1 ≤ length (drop place places) = omega (arith, inside, length-drop place places) in
    rw (drop-set-lt (place + 1) places place new (omega arith), take_more_set places place new inside)
    (rw (drop-append-le 1 (drop place places) (take place places) rest, drop-drop 1 place places)
    (sym (append_assoc (drop (place + 1) places) (take place places) (new ∷ []))))

filled_round : (size n new : ℕ) (places : List ℕ) → 0 < size → length places ≡ size
    → round_from ((n + 1) % size) (set places (n % size) new) ≡ drop 1 (round_from (n % size) places) ++ new ∷ []
filled_round size n new places some is =
    let inside : n % size < size = mod-lt n some in
    let done = filled places (n % size) new (omega (arith, is, inside)) in
    elim (cases_lt (n % size + 1) size) [
      | inl before ↦ rw (next_of size n, mod-eq_of_lt before) done
      | inr last ↦
          let full : n % size + 1 ≡ size = omega (arith, inside, last) in
          let all = set places (n % size) new in
          let long = length-set places (n % size) new in
          let round : round_from size all ≡ all =
          rw (drop_all size all (omega (arith, is, long)), take_all size all (omega (arith, is, long))) refl in
          rw (next_of size n, full, mod_self size, append-nil all)
          (sym round ∙ ap (λ (p : ℕ). round_from p all) (sym full) ∙ done)
    ]

-- ---- the last edges of a walk that grows

-- what stands round the ring: empty places, and the last edges
abbrev held : ℕ → List ℕ → List ℕ
held size walk = replicate (size - length walk) 0 ++ map suc (drop (length walk - size) walk)

held_more : (size edge : ℕ) (walk : List ℕ) → 0 < size
    → drop 1 (held size walk) ++ suc edge ∷ [] ≡ held size (walk ++ edge ∷ [])
held_more size edge walk some =
    let longer : length (walk ++ edge ∷ []) ≡ length walk + 1 = length-append walk (edge ∷ []) in
    elim (cases_lt (length walk) size) [
      | inl room ↦
          let empty : size - length walk ≡ suc (size - (length walk + 1)) = omega (arith, room) in
          let kept : length walk - size ≡ 0 = omega (arith, room) in
          let gone : length walk + 1 - size ≡ 0 = omega (arith, room) in
          rw (longer, empty, kept, gone, map-append suc walk (edge ∷ []))
          (append_assoc (replicate (size - (length walk + 1)) 0) (map suc walk) (suc edge ∷ []))
      | inr full ↦
          let empty : size - length walk ≡ 0 = omega (arith, full) in
          let none : size - (length walk + 1) ≡ 0 = omega (arith, full) in
          let gone : length walk + 1 - size ≡ length walk - size + 1 = omega (arith, full) in
          rw (longer, empty, none, gone, drop-append-le (length walk - size + 1) walk (edge ∷ []) (omega (arith, full, some)))
          (rw (map-append suc (drop (length walk - size + 1) walk) (edge ∷ []))
          (rw (drop-map suc 1 (drop (length walk - size) walk), drop-drop 1 (length walk - size) walk) refl))
    ]

-- ---- what is read

no_edges : (n : ℕ) → filter_map edge_in (replicate n 0) ≡ []
no_edges zero = refl
no_edges (suc n) = no_edges n

all_edges : (edges : List ℕ) → filter_map edge_in (map suc edges) ≡ edges
all_edges [] = refl
all_edges (edge ∷ edges) = cc (all_edges edges)

read : (size : ℕ) (walk : List ℕ) → filter_map edge_in (held size walk) ≡ drop (length walk - size) walk
read size walk =
    let last = drop (length walk - size) walk in
    rw (filter_map-append edge_in (replicate (size - length walk) 0) (map suc last), no_edges (size - length walk))
    (all_edges last)

-- ---- the laws

module _ (bits : ℕ) (few : bits ≤ 16) where
  pub tells : (walk cells : List ℕ) → IsRingOf bits walk cells → edges_in bits cells ≡ last_of bits walk
  tells walk cells ring =
      rw (ring.count, place_of_count bits (length walk) few, ring.places) (read (2 ^ bits) walk)

  logged : (registers : ℕ → ℕ) (walk places : List ℕ) (count edge : ℕ) → IsRingOf bits walk (count ∷ places)
      → update registers (ring_on bits edge) (count ∷ places)
      ≡ ((count + 1) % 2 ^ 32) ∷ set places (length walk % 2 ^ bits) (edge + 1)
  logged registers walk places count edge ring =
      let same = ap (λ (n : ℕ). n % 2 ^ bits) ring.count ∙ place_of_count bits (length walk) few in
      let here : place_in (count ∷ places) 0 bits ≡ suc (length walk % 2 ^ bits) = omega (arith, same) in
      rw here refl

  pub goes_on : (registers : ℕ → ℕ) (walk cells : List ℕ) (edge : ℕ) → IsRingOf bits walk cells
      → IsRingOf bits (walk ++ edge ∷ []) (update registers (ring_on bits edge) cells)
  goes_on registers walk [] edge ring = absurd (omega (arith, ring.size))
  goes_on registers walk (count ∷ places) edge ring =
      let longer : length (walk ++ edge ∷ []) ≡ length walk + 1 = length-append walk (edge ∷ []) in
      let size : suc (length places) ≡ 1 + 2 ^ bits = ring.size in
      rw (logged registers walk places count edge ring) (record {
        size = ap suc (length-set places (length walk % 2 ^ bits) (edge + 1)) ∙ ring.size;
        count = rw (longer, next_of (2 ^ 32) (length walk)) (ap (λ (n : ℕ). (n + 1) % 2 ^ 32) ring.count);
        places = rw longer
            (filled_round (2 ^ bits) (length walk) (edge + 1) places (pow_pos bits) (omega (arith, size))
            ∙ ap₂ (λ (xs : List ℕ) (new : ℕ). drop 1 xs ++ new ∷ []) ring.places (omega arith))
            ∙ held_more (2 ^ bits) edge walk (pow_pos bits);
      })

  -- as many zeros, one more than the places
  pub zeros : (all : ℕ) → all ≡ suc (2 ^ bits) → IsRingOf bits [] (replicate all 0)
  zeros all is = record {
    size = length-replicate all 0 ∙ is ∙ omega arith;
    count = rw is refl;
    places = (let less : 2 ^ bits - 0 ≡ 2 ^ bits = omega arith in
        rw (zero-mod (2 ^ bits), is, drop-nil (0 - 2 ^ bits), less) refl);
  }

works : (bits edge : ℕ) → 1 ≤ bits → bits ≤ 16 → WorksBelow (1 + 2 ^ bits) (ring_on bits edge)
works bits edge some few zero op inside = (some, few, omega arith)
works bits edge some few (suc k) op inside = absurd (omega (arith, inside))

pub all_rings_keep : AllRingsKeepTheLast
all_rings_keep bits some few = record {
  works = λ edge. works bits edge some few;
  begins = zeros bits few (1 + 2 ^ bits) (omega arith);
  goes_on = goes_on bits few;
  tells = tells bits few;
}
