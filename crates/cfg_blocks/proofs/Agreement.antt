-- The lists from which blocks are made say what the definitions say.
use Rattle.cfg_blocks.proofs.Common.{◌≡◌, ℕ, zero, suc, ◌-◌, ◌<◌, ◌≤◌, Bool, not, ◌||◌, ◌&&◌, nat_le, List, [], ◌∷◌, ◌++◌, length, map, filter, slice_index, refl, ap, ◌∙◌, arith, flat_map, append-nil, get_or-map, length-map, filter-append, list_any-append, flat_map-append, Words, BlockEnd, Fall, Into, Nothing, end_at, is_transfer, Blocks, below, is_target, follows_transfer, is_among, leads, leaders, blocks_of, last_word, AreFirsts, Entered, entered_of, entries_from, into_of, is_bare_slot, is_counted, is_fall, leads_to, ways_from, block_end_in, end_in, is_in, leads_in, marked, word_ends, numbers, added_all, counted, counted_from, entered_in, into_in, is_bare_by}
use Rattle.eel_base.specs.declared.numbers.WordNo.{WordNo}
use Rattle.cfg_blocks.proofs.Below.{any_below_same, length-below, get_or-below, list_any-map, filter_below_same, filter_below_firsts, map_below_same}
use Rattle.cfg_blocks.proofs.Entering.{counted_from_same, into_by-added}
use Rattle.cfg_blocks.proofs.Held.{ends_within, some_words}

-- ---- how control leaves each word

pub length-word_ends : (text : Words) → length (word_ends text) ≡ length text.words
unfolding word_ends
length-word_ends text = simp (length-map, length-below)

end_in-word_ends : (text : Words) (k : ℕ) → k < length text.words → end_in (word_ends text) k ≡ end_at text k
unfolding word_ends
end_in-word_ends text k h =
    get_or-map (end_at text) (below (length text.words)) k 0 Fall
    (omega (arith, length-below (length text.words)))
    ∙ ap (end_at text) (get_or-below (length text.words) k 0 h)

is_target-word_ends : (text : Words) (k : ℕ)
    → is_target (length (word_ends text)) (end_in (word_ends text)) k ≡ is_target (length text.words) (end_at text) k
is_target-word_ends text k =
    rw (length-word_ends text) (any_below_same _ _ _ (λ other h. rw (end_in-word_ends text other h) refl))

follows-word_ends : (text : Words) (back k : ℕ) → k < length text.words
    → follows_transfer (end_in (word_ends text)) back k ≡ follows_transfer (end_at text) back k
follows-word_ends text back k h =
    ap (λ end. nat_le back k && is_transfer end) (end_in-word_ends text (k - back) (omega arith))

-- ---- leaders

pub given_by : (starts marks : List WordNo) (k : ℕ)
    → (is_in starts k || is_in marks k) ≡ is_among (numbers starts ++ numbers marks) k
given_by starts marks k = simp (list_any-append, list_any-map)

abbrev IsGiven : Words → List ℕ → List Bool → Type 0
IsGiven text given marks = (k : ℕ) → k < length text.words
    → marked marks k ≡ is_among given k

leads_in-word_ends : (text : Words) (given : List ℕ) (marks : List Bool) → IsGiven text given marks
    → (k : ℕ) → k < length text.words
    → leads_in (word_ends text) marks k
    ≡ leads (length text.words) (end_at text) (is_among given) k
leads_in-word_ends text given marks g k h =
    cc (g k h, is_target-word_ends text k, follows-word_ends text 1 k h, follows-word_ends text 2 k h)

firsts_are : (text : Words) (given : List ℕ) (marks : List Bool) → IsGiven text given marks
    → filter (leads_in (word_ends text) marks) (below (length (word_ends text))) ≡ leaders text given
unfolding leaders
firsts_are text given marks g =
    ap (λ n. filter (leads_in (word_ends text) marks) (below n)) (length-word_ends text)
    ∙ filter_below_same (length text.words) _ _ (leads_in-word_ends text given marks g)

firsts_of : (text : Words) (given : List ℕ) → 1 ≤ length text.words
    → AreFirsts (length text.words) (leaders text given)
unfolding leaders
firsts_of text given some = filter_below_firsts (length text.words) (leads (length text.words) (end_at text) (is_among given)) some refl

block_end_alike : (text : Words) (firsts : List ℕ) (block : ℕ) → AreFirsts (length text.words) firsts
    → block < length firsts
    → block_end_in (word_ends text) firsts block ≡ end_at text (last_word firsts (length text.words) block)
unfolding block_end_in
block_end_alike text firsts block f h =
    let some = some_words _ firsts f block h in
    rw (length-word_ends text) (end_in-word_ends text _ (omega (arith, ends_within _ firsts f block h)))

-- ---- what leads to a block

filter_map_same : {A B : Type 0} (p q : B → Bool) (f : A → B) (xs : List A) → ((x : A) → p (f x) ≡ q (f x))
    → filter p (map f xs) ≡ filter q (map f xs)
filter_map_same p q f [] same = refl
filter_map_same p q f (x ∷ xs) same = cc (same x, filter_map_same p q f xs same)

bare_alike : (text : Words) (given : List ℕ) (marks : List Bool) (b : Blocks) (block : ℕ)
    → IsGiven text given marks → slice_index b.firsts block < length text.words
    → is_bare_by b (word_ends text) marks block ≡ is_bare_slot (end_at text) (is_among given) b block
bare_alike text given marks b block g h =
    let first = slice_index b.firsts block in
    cc (follows-word_ends text 1 first h, g first h)

counted_alike : (text : Words) (given : List ℕ) (b : Blocks) (count word : ℕ)
    → filter (is_counted (end_at text) (is_among given) b) (flat_map (entries_from b word) (below count))
    ≡ counted_from b (is_bare_slot (end_at text) (is_among given) b) count word
counted_alike text given b zero word = refl
counted_alike text given b (suc count) word =
    let here : filter (is_counted (end_at text) (is_among given) b) (entries_from b word count)
    ≡ counted count (is_bare_slot (end_at text) (is_among given) b count) (ways_from b count) word =
    filter_map_same (is_counted (end_at text) (is_among given) b)
    (λ entry. not (is_fall entry.kind && is_bare_slot (end_at text) (is_among given) b count))
    (λ way. record { from = count; kind = way.kind })
    (filter (λ way. leads_to word way.to) (ways_from b count)) (λ way. refl) in
    simp (flat_map-append, append-nil, filter-append, counted_alike text given b count word, here)

into_alike : (text : Words) (given : List ℕ) (marks : List Bool) (b : Blocks) (block : ℕ)
    → IsGiven text given marks
    → ((k : ℕ) → k < length b.firsts → slice_index b.firsts k < length text.words)
    → into_in b (word_ends text) marks block ≡ into_of text given b block
unfolding into_in into_of
into_alike text given marks b block g within =
    rw (into_by-added, counted_alike) (ap (added_all Nothing) (counted_from_same b
    (is_bare_by b (word_ends text) marks) (is_bare_slot (end_at text) (is_among given) b) _ _
    (λ k h. bare_alike text given marks b k g (within k h))))

-- ---- the whole list

pub cut_is : (ends : List BlockEnd) (given : List Bool) (firsts : List ℕ) (block_ends : List BlockEnd)
    (intos : List Into)
    → firsts ≡ filter (leads_in ends given) (below (length ends))
    → block_ends ≡ map (block_end_in ends firsts) (below (length firsts))
    → (let b : Blocks = record { firsts = firsts; words = length ends; ends = block_ends } in intos
    ≡ map (into_in b ends given) (below (length firsts)))
    → (let e : Entered = record {
      blocks =
          record { firsts = firsts; words = length ends; ends = block_ends };
      intos = intos;
    } in e
    ≡ entered_in ends given)
unfolding entered_in
cut_is ends given firsts block_ends intos f e i = rw (i, e, f)

pub entered_alike : (text : Words) (given : List ℕ) (marks : List Bool) → 1 ≤ length text.words
    → IsGiven text given marks
    → entered_in (word_ends text) marks ≡ entered_of text given
unfolding entered_in entered_of blocks_of
entered_alike text given marks some g =
    let firsts = leaders text given in
    let f = firsts_of text given some in
    let ends : map (block_end_in (word_ends text) firsts) (below (length firsts))
    ≡ (blocks_of text given).ends =
    map_below_same (length firsts) _ _ (λ block h. block_end_alike text firsts block f h) in
    let intos : map (into_in (blocks_of text given) (word_ends text) marks) (below (length firsts))
    ≡ map (into_of text given (blocks_of text given)) (below (length firsts)) =
    map_below_same (length firsts) _ _
    (λ block h. into_alike text given marks (blocks_of text given) block g f.within) in
    rw (firsts_are text given marks g, length-word_ends text, ends)
    (ap (λ (is : List Into). let e : Entered =
    record { blocks = blocks_of text given; intos = is } in e) intos)
