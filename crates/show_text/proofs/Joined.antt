-- Lines that are added one after another.
use Rattle.show_text.proofs.Common.{◌≡◌, ℕ, ◌+◌, ◌<◌, ◌≤◌, List, [], ◌∷◌, ◌++◌, length, map, take, get_or, refl, ap, sym, ◌∙◌, append_assoc, flat_map, flat_map_more, take_all, take_more, line}
use Rattle.std.specs.Borrow.{Bor}

-- a word behind a space
abbrev pub spaced : Bor (List ℕ) → List ℕ
spaced word = 32 ∷ word.now

line_is : (first : List ℕ) (words : List (Bor (List ℕ)))
    → line (first ∷ map (λ word. word.now) words) ≡ first ++ (flat_map spaced words ++ 10 ∷ [])
line_is first [] = refl
line_is first (word ∷ words) =
    ap (λ rest. first ++ 32 ∷ rest)
    (line_is word.now words ∙ sym (append_assoc word.now (flat_map spaced words) (10 ∷ [])))

pub line_added : (old first : List ℕ) (words : List (Bor (List ℕ)))
    → ((old ++ first) ++ flat_map spaced words) ++ 10 ∷ []
    ≡ old ++ line (first ∷ map (λ word. word.now) words)
line_added old first words =
    append_assoc (old ++ first) (flat_map spaced words) (10 ∷ [])
    ∙ append_assoc old first (flat_map spaced words ++ 10 ∷ [])
    ∙ ap (λ rest. old ++ rest) (sym (line_is first words))

-- one line more
pub more_lines : {X : Type 0} (f : X → List ℕ) (xs : List X) (i : ℕ) (x d : X) (start now new : List ℕ)
    → i < length xs → get_or xs i d ≡ x → now ≡ start ++ flat_map f (take i xs) → new ≡ now ++ f x
    → new ≡ start ++ flat_map f (take (i + 1) xs)
more_lines f xs i x d start now new within at before then =
    then ∙ ap (λ lines. lines ++ f x) before ∙ flat_map_more f start (take i xs) x
    ∙ ap (λ ys. start ++ flat_map f ys)
    (ap (λ y. take i xs ++ y ∷ []) (sym at) ∙ sym (take_more xs i d within))

pub all_lines : {X : Type 0} (f : X → List ℕ) (xs : List X) (i : ℕ) (start now : List ℕ)
    → length xs ≤ i → now ≡ start ++ flat_map f (take i xs) → now ≡ start ++ flat_map f xs
all_lines f xs i start now within before = before ∙ ap (λ ys. start ++ flat_map f ys) (take_all i xs within)
