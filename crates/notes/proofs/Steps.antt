-- Steps of a reading, one after the other.
use Rattle.notes.proofs.Common.{◌≡◌, ℕ, Bool, true, false, List, [], ◌∷◌, ◌++◌, ◌||◌, map, Result, Ok, Err, if◌then◌else◌, refl, ap, sym, subst, append_assoc, IfErr, IsErrAnd, list_any, NoNotes, Bad, ◌>>=◌, kept, IsFault, Answers, WantsMemoryIf, NotesFault}
use Rattle.notes.specs.declared.note.NotesFault.TheVariants as faults

pub bind_assoc : {A B C : Type 0} (m : Result A NoNotes) (f : A → Result B NoNotes) (g : B → Result C NoNotes) → ((m >>= f) >>= g) ≡ (m >>= (λ x. f x >>= g))
bind_assoc (Ok x) f g = refl
bind_assoc (Err e) f g = refl

pub kept_then : {A B : Type 0} (rule : Bool) (at : ℕ) (value : A) (f : A → Result B NoNotes) → (kept rule at value >>= f) ≡ (if rule then f value else Err (Bad at))
kept_then true at value f = refl
kept_then false at value f = refl

-- the rows that were read, and what is left of the table
abbrev pub after : {A : Type 0} → List A → Result (List A) NoNotes → Result (List A) NoNotes
after rows rest = rest >>= (λ others. Ok (rows ++ others))

pub after_none : {A : Type 0} (rest : Result (List A) NoNotes) → after [] rest ≡ rest
after_none (Ok rows) = refl
after_none (Err e) = refl

-- one row more
pub after_row : {A : Type 0} (rows : List A) (row : A) (rest : Result (List A) NoNotes) → after rows (rest >>= (λ others. Ok (row ∷ others))) ≡ after (rows ++ row ∷ []) rest
after_row rows row (Ok others) = ap Ok (sym (append_assoc rows (row ∷ []) others))
after_row rows row (Err e) = refl

-- a table is a row, and then the others
pub after_next : {A : Type 0} (rows : List A) (row : Result A NoNotes) (rest : A → Result (List A) NoNotes)
    → after rows (row >>= (λ first. rest first >>= (λ others. Ok (first ∷ others)))) ≡ (row >>= (λ first. after (rows ++ first ∷ []) (rest first)))
after_next rows (Ok first) rest = after_row rows first (rest first)
after_next rows (Err e) rest = refl

-- the fault of a step is that of the whole
pub through : {A B : Type 0} (fault : NotesFault) (step : Result A NoNotes) (f : A → Result B NoNotes) → IsFault fault step → IsFault fault (step >>= f)
through faults.NoMemory step f is = tt
through fault step f is = ap (λ s. s >>= f) is

-- an answer that is a fault
pub fault_out : {A B : Type 0} (seen : A → B) (result : Result A NotesFault) (fault : NotesFault) (read : Result B NoNotes) → IsErrAnd result (λ other. other ≡ fault) → IsFault fault read → Answers seen result read
fault_out seen (Ok x) fault read is says = absurd is
fault_out seen (Err other) fault read is says = subst (λ (e : NotesFault). IsFault e read) (sym is) says

pub any_map : {X Y : Type 0} (test : Y → Bool) (f : X → Y) (xs : List X) → list_any test (map f xs) ≡ list_any (λ x. test (f x)) xs
any_map test f [] = refl
any_map test f (x ∷ xs) = ap (λ b. test (f x) || b) (any_map test f xs)

-- memory that is wanting only where one thing holds is wanting only where another does
pub wanting_out : {A : Type 0} (held holds : Type 0) (result : Result A NotesFault) (fault : NotesFault)
    → IsErrAnd result (λ other. other ≡ fault) → WantsMemoryIf held fault → (held → holds) → IfErr result (WantsMemoryIf holds)
wanting_out held holds (Ok x) fault is wants so = tt
wanting_out held holds (Err other) fault is wants so = subst (WantsMemoryIf holds) (sym is) (more fault wants)
  where
    more : (fault : NotesFault) → WantsMemoryIf held fault → WantsMemoryIf holds fault
    more faults.NoMemory wants = so wants
    more fault wants = tt

-- memory may be wanting where it holds
pub wanting_held : {A : Type 0} (holds : Type 0) (result : Result A NotesFault) → holds → IfErr result (WantsMemoryIf holds)
wanting_held holds (Err faults.NoMemory) is = is
wanting_held holds result is = tt
