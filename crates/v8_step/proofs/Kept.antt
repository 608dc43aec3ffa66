-- What every write and every move of the heap's end keeps between a memory and the one after it, each step keeps.
use Rattle.v8_step.proofs.Common.{ℕ, Option, Some, None, List, [], ◌∷◌, Instr, decode_of, Memory, all_written, fetch_of, with_heap_end, AllApart, Span, Ending, State, judged_by, act, on_word, step_of, unless_ended}
use Rattle.v8_step.proofs.KeptOutside.{kept_act as kept_outside}

-- of no pages all is apart
pub none_near : (spans : List Span) → AllApart [] spans
none_near [] = tt
none_near (span ∷ spans) = (tt, none_near spans)

module _ (Rel : Memory → Memory → Type 0) (same : (m : Memory) → Rel m m)
    (and_then : (m n o : Memory) → Rel m n → Rel n o → Rel m o)
    (by_write : (address : ℕ) (bytes : List ℕ) (m : Memory) → Rel m (all_written address bytes m))
    (by_heap : (m : Memory) (address : ℕ) → Rel m (with_heap_end m address)) where
  -- the state's memory is kept
  abbrev pub Keeps : Memory → State → Type 0
  Keeps m s = Rel m s.memory

  pub kept_act : (m : Memory) (s : State) (instr : Instr) → Keeps m s → Keeps m (act s instr)
  kept_act m s instr h =
      kept_outside [] Rel same and_then (λ address bytes n some apart. by_write address bytes n)
      (λ n address is. by_heap n address) m s instr h (none_near (judged_by s instr))

  pub kept_step : (m : Memory) (s : State) → Keeps m s → Keeps m (step_of s)
  unfolding step_of
  kept_step m s h = go s.ending (fetch_of s.memory s.pc)
    where
      go : (e : Option Ending) (o : Option ℕ) → Keeps m (unless_ended s e (on_word s o))
      go None (Some word) = kept_act m s (decode_of word) h
      go e o = h
