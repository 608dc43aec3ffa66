-- A first state over an empty heap is valid.
use Rattle.v8_step.proofs.Common.{◌≡◌, ℕ, zero, suc, ◌^◌, ◌<◌, List, ◌∷◌, length, All, refl, arith, replicate, All-nil, All-cons, All-append, All-replicate, length-replicate, Memory, empty_heap, heap_room, zeros, first_state, AreBytes, IsValidHeap, IsValidMemory, IsValid}
use Rattle.v8_alu.proofs.Ranges.{wrapped_range}

zeros-words : (n : ℕ) → All (λ w. w < 2 ^ 32) (zeros n)
zeros-words zero = All-nil (λ w. w < 2 ^ 32)
zeros-words (suc n) = All-cons (λ w. w < 2 ^ 32) 0 (zeros n) (omega arith) (zeros-words n)

heap_first : (room byte : ℕ) → length (replicate room byte) ≡ room
heap_first room byte = length-replicate room byte

pub empty_heap-valid : IsValidHeap empty_heap
empty_heap-valid = record {
  start = refl;
  size = omega arith;
  count = heap_first heap_room 0;
  bytes = All-replicate (λ b. b < 256) heap_room 0 (omega arith);
}

pub first_state-valid : (m : Memory) (entry sp : ℕ) (input : List ℕ) → IsValidMemory m → entry < 2 ^ 32 → sp < 2 ^ 32
    → AreBytes input → IsValid (first_state m entry sp input)
first_state-valid m entry sp input h k j i = record {
  registers = record {
    count = refl;
    zero = refl;
    words =
        All-append (λ w. w < 2 ^ 32) (zeros 14) (sp ∷ zeros 121) (zeros-words 14)
        (All-cons (λ w. w < 2 ^ 32) sp (zeros 121) j (zeros-words 121));
  };
  pc = k;
  npc = wrapped_range _;
  y = omega arith;
  window = omega arith;
  some_valid = omega arith;
  most_valid = omega arith;
  memory = h;
  input = i;
}
