-- What a memory exchanged, as the state sees it.
use Rattle.v8_step.proofs.Common.{ℕ, List, ap, Result, Ok, Width, MemoryExchanges, Memory, Exchanges, State}
use Rattle.v8_memory.specs.declared.fault.MemFault.{MemFault}

pub exchanged : (width : Width) (read : Result (List ℕ) MemFault) (stored : Result Memory MemFault) (s : State)
    (after : Memory) (result : Result ℕ MemFault) → MemoryExchanges width read stored s.memory after result
    → Exchanges width read stored s (record s { memory = after }) result
exchanged width (Ok bytes) (Ok m) s after result h = (h.0, ap (λ x. record s { memory = x }) h.1)
exchanged width read stored s after result h = (h.0, ap (λ x. record s { memory = x }) h.1)
