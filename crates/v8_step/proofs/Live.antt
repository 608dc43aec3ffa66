-- What a step is of a state that lives, and of one that has ended.
use Rattle.v8_step.proofs.Common.{◌≡◌, ℕ, Some, None, [], decode_of, fetch_of, Ending, State, act, step_of, puts_by, puts_of}

-- a live state's step is what the word at pc does
pub live_step : (s : State) (word : ℕ) → s.ending ≡ None → fetch_of s.memory s.pc ≡ Some word
    → step_of s ≡ act s (decode_of word)
unfolding step_of
live_step s word live fetched = rw (live, fetched)

pub live_puts : (s : State) (word descriptor : ℕ) → s.ending ≡ None → fetch_of s.memory s.pc ≡ Some word
    → puts_of s descriptor ≡ puts_by s (decode_of word) descriptor
unfolding puts_of
live_puts s word descriptor live fetched = rw (live, fetched)

pub stays_ended : (s : State) (d : Ending) → s.ending ≡ Some d → step_of s ≡ s
unfolding step_of
stays_ended s d e = rw e

pub puts_nothing : (s : State) (d : Ending) (descriptor : ℕ) → s.ending ≡ Some d → puts_of s descriptor ≡ []
unfolding puts_of
puts_nothing s d descriptor e = rw e
