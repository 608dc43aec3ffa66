-- What a survey of headers shows is what is true of all of them.
use Rattle.elf32_sparc.proofs.Common.{◌≡◌, ℕ, ◌+◌, Bool, true, false, ◌&&◌, ◌||◌, cond, ltb, List, [], ◌∷◌, Option, Some, None, refl, sym, ap, ◌∙◌, arith, fold, find, list_any, option_or, ProgramHeader, Survey, is_loadable, end_of, is_text, loadable, descends_from, noted}
use Rattle.std.proofs.Math.Bool.{or_assoc}

or-false : (a : Bool) → a ≡ (a || false)
or-false true = refl
or-false false = refl

-- what a survey adds for a header that is kept, or not
any_more : {X : Type 0} (p : X → Bool) (x : X) (rest : List X) (a b : Bool) → ((a || (b && p x)) || list_any p rest) ≡ (a || list_any p (cond b (x ∷ rest) rest))
any_more p x rest a true = or_assoc a (p x) (list_any p rest)
any_more p x rest a false = ap (λ v. v || list_any p rest) (sym (or-false a))

-- a field of a survey that adds up what is true of each header, and of each that is kept
module _ (size : ℕ) (read : Survey → Bool) (p : ProgramHeader → Bool) where
  pub fold-any : ((s : Survey) (h : ProgramHeader) → read (noted size s h) ≡ (read s || p h)) → (s : Survey) (hs : List ProgramHeader) → read (fold (noted size) s hs) ≡ (read s || list_any p hs)
  fold-any adds s [] = or-false (read s)
  fold-any adds s (h ∷ hs) = fold-any adds (noted size s h) hs ∙ rw (adds s h) (or_assoc (read s) (p h) (list_any p hs))

  pub fold-kept : ((s : Survey) (h : ProgramHeader) → read (noted size s h) ≡ (read s || (is_loadable h && p h))) → (s : Survey) (hs : List ProgramHeader) → read (fold (noted size) s hs) ≡ (read s || list_any p (loadable hs))
  fold-kept adds s [] = or-false (read s)
  fold-kept adds s (h ∷ hs) = fold-kept adds (noted size s h) hs ∙ rw (adds s h) (any_more p h (loadable hs) (read s) (is_loadable h))

descends_more : (h : ProgramHeader) (rest : List ProgramHeader) (end : ℕ) (a b : Bool) → ((a || (b && ltb h.p_vaddr end)) || descends_from (cond b (end_of h) end) rest) ≡ (a || descends_from end (cond b (h ∷ rest) rest))
descends_more h rest end a true = or_assoc a (ltb h.p_vaddr end) (descends_from (end_of h) rest)
descends_more h rest end a false = ap (λ v. v || descends_from end rest) (sym (or-false a))

pub fold-descends : (size : ℕ) (s : Survey) (hs : List ProgramHeader) → (fold (noted size) s hs).descends ≡ (s.descends || descends_from s.end (loadable hs))
unfolding noted
fold-descends size s [] = or-false s.descends
fold-descends size s (h ∷ hs) = fold-descends size (noted size s h) hs ∙ descends_more h (loadable hs) s.end s.descends (is_loadable h)

memory_more : (h : ProgramHeader) (rest : List ProgramHeader) (n : ℕ) (b : Bool) → fold (λ a h'. a + h'.p_memsz) (cond b (n + h.p_memsz) n) rest ≡ fold (λ a h'. a + h'.p_memsz) n (cond b (h ∷ rest) rest)
memory_more h rest n true = refl
memory_more h rest n false = refl

pub fold-memory : (size : ℕ) (s : Survey) (hs : List ProgramHeader) → (fold (noted size) s hs).memory ≡ fold (λ a h. a + h.p_memsz) s.memory (loadable hs)
unfolding noted
fold-memory size s [] = refl
fold-memory size s (h ∷ hs) = fold-memory size (noted size s h) hs ∙ memory_more h (loadable hs) s.memory (is_loadable h)

one_more : (n : ℕ) (b : Bool) → cond b (n + 1) n ≡ n + cond b 1 0
one_more n b = grind arith

pub fold-texts : (size : ℕ) (s : Survey) (hs : List ProgramHeader) → (fold (noted size) s hs).texts ≡ fold (λ a h. a + cond (is_text h) 1 0) s.texts hs
unfolding noted
fold-texts size s [] = refl
fold-texts size s (h ∷ hs) = fold-texts size (noted size s h) hs ∙ ap (λ n. fold (λ a h'. a + cond (is_text h') 1 0) n hs) (one_more s.texts (is_text h))

text_more : (h : ProgramHeader) (found rest : Option ProgramHeader) (b : Bool) → option_or (cond b (option_or found (Some h)) found) rest ≡ option_or found (cond b (Some h) rest)
text_more h None rest true = refl
text_more h (Some x) rest true = refl
text_more h found rest false = refl

option_or-none : (found : Option ProgramHeader) → found ≡ option_or found None
option_or-none None = refl
option_or-none (Some x) = refl

pub fold-text : (size : ℕ) (s : Survey) (hs : List ProgramHeader) → (fold (noted size) s hs).text ≡ option_or s.text (find is_text hs)
unfolding noted
fold-text size s [] = option_or-none s.text
fold-text size s (h ∷ hs) = fold-text size (noted size s h) hs ∙ text_more h s.text (find is_text hs) (is_text h)
