-- Lines that are spelled are read, and nothing else is.
use Rattle.weights_in.proofs.Common.{◌≡◌, ℕ, ◌<◌, ◌^◌, ◌&&◌, true, nat_le, List, [], ◌∷◌, ◌++◌, Some, None, inl, inr, codes, decimal, append_assoc, refl, ap, ap₂, sym, subst, ◌∙◌, arith, option_map, bytes_eq, and_from, and_parts, le-leb, leb-true, bytes_eq-Decides, Total, Entry, IsEntry, IsNoLine, IsTotal, entry_line, is_kind, is_node, total_line, Edge, Last, Said, behind, entry_of, if_spelled, is_spelled, next_of, said_by, said_of, total_of}
use Rattle.line_words.specs.Words.{count_of, number_of, split_at, sum_of}
use Rattle.line_words.proofs.Numbers.{count_back, count_read, number_back, number_read, sum_back, sum_read}
use Rattle.line_words.proofs.Split.{decimal_whole_wide, is_whole, split_back, split_read}
use Rattle.line_words.proofs.Steps.{chosen, mapped, step, tested}
use Rattle.show_text.specs.Lines.{line}
use Rattle.weights_in.proofs.Plain.{is_plain, kind_plain, node_plain, whole_append}

-- the same, by how lines are spelled
abbrev pub IsNext : List ℕ → Said → List ℕ → Type 0
IsNext bytes (Edge entry) rest = IsEntry entry × (bytes ≡ entry_line entry ++ rest)
IsNext bytes (Last total) rest = IsTotal total × (bytes ≡ total_line total ++ rest)

-- ---- words with spaces between them

abbrev glue : List ℕ → List ℕ → List ℕ
glue word rest = word ++ (32 ∷ rest)

abbrev joined : List (List ℕ) → List ℕ
joined [] = []
joined (word ∷ []) = word
joined (word ∷ next ∷ words) = word ++ (32 ∷ joined (next ∷ words))

-- a line is its words, and a newline
line_joined : (word : List ℕ) (words : List (List ℕ)) (after : List ℕ)
    → line (word ∷ words) ++ after ≡ joined (word ∷ words) ++ (10 ∷ after)
line_joined word [] after = append_assoc word (10 ∷ []) after
line_joined word (next ∷ words) after =
    append_assoc word (32 ∷ line (next ∷ words)) after
    ∙ ap (λ (rest : List ℕ). word ++ (32 ∷ rest)) (line_joined next words after)
    ∙ sym (append_assoc word (32 ∷ joined (next ∷ words)) (10 ∷ after))

-- words of which each has neither a space nor a newline
abbrev ArePlain : List (List ℕ) → Type 0
ArePlain [] = Unit {0}
ArePlain (word ∷ words) = (is_plain word ≡ true) × ArePlain words

joined_whole : (words : List (List ℕ)) → ArePlain words → is_whole 10 (joined words) ≡ true
joined_whole [] plain = refl
joined_whole (word ∷ []) plain = (and_parts (is_whole 10 word) (is_whole 32 word) plain.0).0
joined_whole (word ∷ next ∷ words) plain =
    whole_append 10 word (32 ∷ joined (next ∷ words)) (and_parts (is_whole 10 word) (is_whole 32 word) plain.0).0
    (joined_whole (next ∷ words) plain.1)

word_back : (word rest : List ℕ) → is_plain word ≡ true → split_at 32 (word ++ (32 ∷ rest)) ≡ Some (word, rest)
word_back word rest plain = split_back 32 word rest (and_parts (is_whole 10 word) (is_whole 32 word) plain).1

line_back : (word : List ℕ) (words : List (List ℕ)) (after : List ℕ) → ArePlain (word ∷ words)
    → split_at 10 (line (word ∷ words) ++ after) ≡ Some (joined (word ∷ words), after)
line_back word words after plain =
    ap (split_at 10) (line_joined word words after)
    ∙ split_back 10 (joined (word ∷ words)) after (joined_whole (word ∷ words) plain)

decimal_plain : (n : ℕ) → n < 10 ^ 64 → is_plain (decimal n) ≡ true
decimal_plain n fits = and_from _ _ (decimal_whole_wide 10 refl n fits) (decimal_whole_wide 32 refl n fits)

same_text : (text : List ℕ) → bytes_eq text text ≡ true
same_text text = (bytes_eq-Decides text text).1 refl

-- ---- an edge

entry_words : Entry → List (List ℕ)
entry_words entry = decimal entry.number ∷ entry.kind ∷ entry.from ∷ entry.to ∷ decimal entry.count ∷ []

module _ (entry : Entry) (is : IsEntry entry) where
  number_plain : is_plain (decimal entry.number) ≡ true
  number_plain = let fits = is.number_fits in decimal_plain entry.number (omega arith)

  count_plain : is_plain (decimal entry.count) ≡ true
  count_plain = let fits = is.count_fits in decimal_plain entry.count (omega arith)

  entry_plain : ArePlain (entry_words entry)
  unfolding entry_words
  entry_plain =
      let kind = kind_plain entry.kind is.kind_is in
      let from = node_plain entry.from is.from_is in
      let to = node_plain entry.to is.to_is in
      (number_plain, (kind, (from, (to, (count_plain, tt)))))

  spelled : is_spelled entry ≡ true
  spelled = rw (is.kind_is, is.from_is, is.to_is, le-leb 1 entry.count is.some) refl

-- the steps of reading an entry
entry_steps : (words : List ℕ) (first second third fourth : List ℕ × List ℕ) (number count : ℕ)
    → split_at 32 words ≡ Some first → number_of first.0 ≡ Some number → split_at 32 first.1 ≡ Some second
    → split_at 32 second.1 ≡ Some third → split_at 32 third.1 ≡ Some fourth → count_of fourth.1 ≡ Some count
    → entry_of words
    ≡ if_spelled (record { number = number; kind = second.0; from = third.0; to = fourth.0; count = count })
unfolding entry_of
entry_steps words first second third fourth number count a b c d e f = rw (a, b, c, d, e, f) refl

entry_back : (entry : Entry) → IsEntry entry → entry_of (joined (entry_words entry)) ≡ Some entry
unfolding entry_words
entry_back entry is =
    let ending : List ℕ = decimal entry.count in
    let third : List ℕ = entry.to ++ (32 ∷ ending) in
    let second : List ℕ = entry.from ++ (32 ∷ third) in
    let first : List ℕ = entry.kind ++ (32 ∷ second) in
    entry_steps (decimal entry.number ++ (32 ∷ first)) (decimal entry.number, first) (entry.kind, second)
    (entry.from, third) (entry.to, ending) entry.number entry.count
    (word_back (decimal entry.number) first (number_plain entry is)) (number_back entry.number is.number_fits)
    (word_back entry.kind second (kind_plain entry.kind is.kind_is))
    (word_back entry.from third (node_plain entry.from is.from_is))
    (word_back entry.to ending (node_plain entry.to is.to_is)) (count_back entry.count is.count_fits)
    ∙ rw (spelled entry is) refl

-- The words are those of the entry.
record AreOf (words : List ℕ) (entry : Entry) : Type 0 where
  entry_is : IsEntry entry
  spelling : words ≡ joined (entry_words entry)

entry_joined : (words : List ℕ) (first second third fourth : List ℕ × List ℕ) (number count : ℕ) (entry : Entry)
    → split_at 32 words ≡ Some first → number_of first.0 ≡ Some number → split_at 32 first.1 ≡ Some second
    → split_at 32 second.1 ≡ Some third → split_at 32 third.1 ≡ Some fourth → count_of fourth.1 ≡ Some count
    → if_spelled (record { number = number; kind = second.0; from = third.0; to = fourth.0; count = count })
    ≡ Some entry
    → AreOf words entry
unfolding entry_words
entry_joined words first second third fourth number count entry a b c d e f g =
    let made : Entry = record { number = number; kind = second.0; from = third.0; to = fourth.0; count = count } in
    let found = tested (is_spelled made) made entry g in
    let outer = and_parts (is_kind second.0 && is_node third.0 && is_node fourth.0) (nat_le 1 count) found.0 in
    let middle = and_parts (is_kind second.0 && is_node third.0) (is_node fourth.0) outer.0 in
    let inner = and_parts (is_kind second.0) (is_node third.0) middle.0 in
    let number_is = number_read first.0 number b in
    let count_is = count_read fourth.1 count f in
    let text : words ≡ joined (entry_words made) =
    split_read 32 words first a
    ∙ ap₂ glue number_is.0 (split_read 32 first.1 second c
    ∙ ap (glue second.0) (split_read 32 second.1 third d
    ∙ ap (glue third.0) (split_read 32 third.1 fourth e ∙ ap (glue fourth.0) count_is.0))) in
    subst (AreOf words) found.1 (record {
      entry_is = record {
        number_fits = number_is.1;
        kind_is = inner.0;
        from_is = inner.1;
        to_is = middle.1;
        some = leb-true 1 count outer.1;
        count_fits = count_is.1;
      };
      spelling = text;
    })

entry_read : (words : List ℕ) (entry : Entry) → entry_of words ≡ Some entry → AreOf words entry
unfolding entry_of
entry_read words =
    step (AreOf words) (split_at 32 words) _ (λ first a.
    step (AreOf words) (number_of first.0) _ (λ number b.
    step (AreOf words) (split_at 32 first.1) _ (λ second c.
    step (AreOf words) (split_at 32 second.1) _ (λ third d.
    step (AreOf words) (split_at 32 third.1) _ (λ fourth e.
    step (AreOf words) (count_of fourth.1) _ (λ count f entry g.
    entry_joined words first second third fourth number count entry a b c d e f g))))))

-- ---- the last line

total_words : Total → List (List ℕ)
total_words total =
    decimal total.edges ∷ codes "counted" ∷ decimal total.counted ∷ codes "executions" ∷ decimal total.executions ∷ []

behind_back : (word rest : List ℕ) → is_plain word ≡ true → behind word (word ++ (32 ∷ rest)) ≡ Some rest
unfolding behind
behind_back word rest plain = rw (word_back word rest plain, same_text word) refl

behind_read : (word bytes rest : List ℕ) → behind word bytes ≡ Some rest → bytes ≡ word ++ (32 ∷ rest)
unfolding behind
behind_read word bytes =
    step (λ rest. bytes ≡ word ++ (32 ∷ rest)) (split_at 32 bytes) _ (λ parts a rest b.
    let found = tested (bytes_eq parts.0 word) parts.1 rest b in
    split_read 32 bytes parts a ∙ ap₂ glue ((bytes_eq-Decides parts.0 word).0 found.0) found.1)

module _ (total : Total) (is : IsTotal total) where
  edges_plain : is_plain (decimal total.edges) ≡ true
  edges_plain = let fits = is.edges_fit in decimal_plain total.edges (omega arith)

  counted_plain : is_plain (decimal total.counted) ≡ true
  counted_plain = let fits = is.counted_fit in decimal_plain total.counted (omega arith)

  executions_plain : is_plain (decimal total.executions) ≡ true
  executions_plain = let fits = is.executions_fit in decimal_plain total.executions (omega arith)

  total_plain : ArePlain (total_words total)
  unfolding total_words
  total_plain = (edges_plain, (refl, (counted_plain, (refl, (executions_plain, tt)))))

total_steps : (words second last : List ℕ) (first third : List ℕ × List ℕ) (edges counted executions : ℕ)
    → split_at 32 words ≡ Some first → number_of first.0 ≡ Some edges → behind (codes "counted") first.1 ≡ Some second
    → split_at 32 second ≡ Some third → number_of third.0 ≡ Some counted
    → behind (codes "executions") third.1 ≡ Some last → sum_of last ≡ Some executions
    → total_of words ≡ Some (record { edges = edges; counted = counted; executions = executions })
unfolding total_of
total_steps words second last first third edges counted executions a b c d e f g = rw (a, b, c, d, e, f, g) refl

total_back : (total : Total) → IsTotal total → total_of (joined (total_words total)) ≡ Some total
unfolding total_words
total_back total is =
    let last : List ℕ = decimal total.executions in
    let third : List ℕ = codes "executions" ++ (32 ∷ last) in
    let second : List ℕ = decimal total.counted ++ (32 ∷ third) in
    let first : List ℕ = codes "counted" ++ (32 ∷ second) in
    total_steps (decimal total.edges ++ (32 ∷ first)) second last (decimal total.edges, first)
    (decimal total.counted, third) total.edges total.counted total.executions
    (word_back (decimal total.edges) first (edges_plain total is)) (number_back total.edges is.edges_fit)
    (behind_back (codes "counted") second refl) (word_back (decimal total.counted) third (counted_plain total is))
    (number_back total.counted is.counted_fit) (behind_back (codes "executions") last refl)
    (sum_back total.executions is.executions_fit)

record AreOfTotal (words : List ℕ) (total : Total) : Type 0 where
  total_is : IsTotal total
  spelling : words ≡ joined (total_words total)

total_joined : (words second last : List ℕ) (first third : List ℕ × List ℕ) (edges counted executions : ℕ)
    (total : Total) → split_at 32 words ≡ Some first → number_of first.0 ≡ Some edges → behind (codes "counted") first.1 ≡ Some second
    → split_at 32 second ≡ Some third → number_of third.0 ≡ Some counted
    → behind (codes "executions") third.1 ≡ Some last → sum_of last ≡ Some executions
    → Some (record { edges = edges; counted = counted; executions = executions }) ≡ Some total
    → AreOfTotal words total
unfolding total_words
total_joined words second last first third edges counted executions total a b c d e f g h =
    let made : Total = record { edges = edges; counted = counted; executions = executions } in
    let edges_is = number_read first.0 edges b in
    let counted_is = number_read third.0 counted e in
    let sum_is = sum_read last executions g in
    let text : words ≡ joined (total_words made) =
    split_read 32 words first a
    ∙ ap₂ glue edges_is.0 (behind_read (codes "counted") first.1 second c
    ∙ ap (glue (codes "counted")) (split_read 32 second third d
    ∙ ap₂ glue counted_is.0 (behind_read (codes "executions") third.1 last f
    ∙ ap (glue (codes "executions")) sum_is.0))) in
    let same : made ≡ total = cc h in
    subst (AreOfTotal words) same (record {
      total_is = record { edges_fit = edges_is.1; counted_fit = counted_is.1; executions_fit = sum_is.1 };
      spelling = text;
    })

total_read : (words : List ℕ) (total : Total) → total_of words ≡ Some total → AreOfTotal words total
unfolding total_of
total_read words =
    step (AreOfTotal words) (split_at 32 words) _ (λ first a.
    step (AreOfTotal words) (number_of first.0) _ (λ edges b.
    step (AreOfTotal words) (behind (codes "counted") first.1) _ (λ second c.
    step (AreOfTotal words) (split_at 32 second) _ (λ third d.
    step (AreOfTotal words) (number_of third.0) _ (λ counted e.
    step (AreOfTotal words) (behind (codes "executions") third.1) _ (λ last f.
    step (AreOfTotal words) (sum_of last) _ (λ executions g total h.
    total_joined words second last first third edges counted executions total a b c d e f g h)))))))

-- ---- the next line

entry_next : (bytes : List ℕ) (parts : List ℕ × List ℕ) (entry : Entry) → split_at 10 bytes ≡ Some parts
    → parts.0 ≡ codes "edge" ++ (32 ∷ joined (entry_words entry)) → bytes ≡ entry_line entry ++ parts.1
unfolding entry_words
entry_next bytes parts entry split is =
    split_read 10 bytes parts split ∙ ap (λ (l : List ℕ). l ++ (10 ∷ parts.1)) is
    ∙ sym (line_joined (codes "edge") (entry_words entry) parts.1)

total_next : (bytes : List ℕ) (parts : List ℕ × List ℕ) (total : Total) → split_at 10 bytes ≡ Some parts
    → parts.0 ≡ codes "edges" ++ (32 ∷ joined (total_words total)) → bytes ≡ total_line total ++ parts.1
unfolding total_words
total_next bytes parts total split is =
    split_read 10 bytes parts split ∙ ap (λ (l : List ℕ). l ++ (10 ∷ parts.1)) is
    ∙ sym (line_joined (codes "edges") (total_words total) parts.1)

next_steps : (bytes line after verb words : List ℕ) (said : Said) → split_at 10 bytes ≡ Some (line, after)
    → split_at 32 line ≡ Some (verb, words) → said_by verb words ≡ Some said → next_of bytes ≡ Some (said, after)
unfolding next_of said_of
next_steps bytes line after verb words said a b c = rw (a, b, c) refl

entry_line_back : (entry : Entry) (after : List ℕ) → IsEntry entry
    → next_of (entry_line entry ++ after) ≡ Some (Edge entry, after)
unfolding entry_words
entry_line_back entry after is =
    next_steps (entry_line entry ++ after) (joined (codes "edge" ∷ entry_words entry)) after (codes "edge")
    (joined (entry_words entry)) (Edge entry)
    (line_back (codes "edge") (entry_words entry) after (refl, entry_plain entry is))
    (word_back (codes "edge") (joined (entry_words entry)) refl) (ap (option_map Edge) (entry_back entry is))

total_line_back : (total : Total) (after : List ℕ) → IsTotal total
    → next_of (total_line total ++ after) ≡ Some (Last total, after)
unfolding total_words
total_line_back total after is =
    next_steps (total_line total ++ after) (joined (codes "edges" ∷ total_words total)) after (codes "edges")
    (joined (total_words total)) (Last total)
    (line_back (codes "edges") (total_words total) after (refl, total_plain total is))
    (word_back (codes "edges") (joined (total_words total)) refl) (ap (option_map Last) (total_back total is))

-- a line that is spelled is read
pub next_back : (bytes after : List ℕ) (said : Said) → IsNext bytes said after → next_of bytes ≡ Some (said, after)
next_back bytes after (Edge entry) is = ap next_of is.1 ∙ entry_line_back entry after is.0
next_back bytes after (Last total) is = ap next_of is.1 ∙ total_line_back total after is.0

pub no_next : (bytes : List ℕ) → next_of bytes ≡ None → IsNoLine bytes
no_next bytes none = record {
  entry = λ entry after is same. cc (sym none ∙ next_back bytes after (Edge entry) (is, same));
  total = λ total after is same. cc (sym none ∙ next_back bytes after (Last total) (is, same));
}

said_read : (bytes : List ℕ) (parts others : List ℕ × List ℕ) (said : Said) → split_at 10 bytes ≡ Some parts
    → split_at 32 parts.0 ≡ Some others → said_by others.0 others.1 ≡ Some said → IsNext bytes said parts.1
said_read bytes parts others said split verb h =
    elim (chosen (bytes_eq others.0 (codes "edge")) _ _ said h) as (λ _. IsNext bytes said parts.1) [
      | inl is ↦
          let found = mapped Edge (entry_of others.1) said is.1 in
          let read = entry_read others.1 found.got found.is in
          let begins = (bytes_eq-Decides others.0 (codes "edge")).0 is.0 in
          let text = split_read 32 parts.0 others verb ∙ ap₂ glue begins read.spelling in
          subst (λ (s : Said). IsNext bytes s parts.1) found.same
          (read.entry_is, entry_next bytes parts found.got split text)
      | inr other ↦
          elim (chosen (bytes_eq others.0 (codes "edges")) _ _ said other.1) as (λ _. IsNext bytes said parts.1) [
            | inl is ↦
                let found = mapped Last (total_of others.1) said is.1 in
                let read = total_read others.1 found.got found.is in
                let begins = (bytes_eq-Decides others.0 (codes "edges")).0 is.0 in
                let text = split_read 32 parts.0 others verb ∙ ap₂ glue begins read.spelling in
                subst (λ (s : Said). IsNext bytes s parts.1) found.same
                (read.total_is, total_next bytes parts found.got split text)
            | inr none ↦ absurd (cc none.1)
          ]
    ]

-- and nothing else is
IsRead : List ℕ → Said × List ℕ → Type 0
IsRead bytes next = IsNext bytes next.0 next.1

pub next_read : (bytes : List ℕ) (next : Said × List ℕ) → next_of bytes ≡ Some next → IsNext bytes next.0 next.1
unfolding next_of said_of IsRead
next_read bytes =
    step (IsRead bytes) (split_at 10 bytes) _ (λ parts a.
    step (IsRead bytes) (said_of parts.0) _ (λ said b next same.
    subst (IsRead bytes) (cc same)
    (step (λ (s : Said). IsNext bytes s parts.1) (split_at 32 parts.0) _ (λ others c s d.
    said_read bytes parts others s a c d) said b)))
