-- Words stored, one after the other.
use Rattle.code_runs.proofs.Common.{◌≡◌, ℕ, List, [], ◌∷◌, ◌++◌, refl, ap, sym, ◌∙◌, Memory, store_word, store_all, AllAt, Stores}

pub stores_none : (May : ℕ → Type 0) (m : Memory) → Stores May m m
stores_none May m = record { writes = []; each = tt; result = refl }

pub stores_one : (May : ℕ → Type 0) (m : Memory) (a v : ℕ) → May a → Stores May m (store_word m a v)
stores_one May m a v may = record { writes = (a, v) ∷ []; each = (may, tt); result = refl }

store_all-then : (ws vs : List (ℕ × ℕ)) (m : Memory) → store_all (ws ++ vs) m ≡ store_all vs (store_all ws m)
store_all-then [] vs m = refl
store_all-then (w ∷ ws) vs m = store_all-then ws vs (store_word m w.0 w.1)

each-then : (May : ℕ → Type 0) (ws vs : List (ℕ × ℕ)) → AllAt May ws → AllAt May vs → AllAt May (ws ++ vs)
each-then May [] vs h k = k
each-then May (w ∷ ws) vs h k = (h.0, each-then May ws vs h.1 k)

pub each-weaker : (May Might : ℕ → Type 0) → ((z : ℕ) → May z → Might z) → (ws : List (ℕ × ℕ)) → AllAt May ws
    → AllAt Might ws
each-weaker May Might f [] h = tt
each-weaker May Might f (w ∷ ws) h = (f w.0 h.0, each-weaker May Might f ws h.1)

pub stores_then : (May Might : ℕ → Type 0) (m n o : Memory) → ((z : ℕ) → May z → Might z) → Stores Might m n
    → Stores May n o → Stores Might m o
stores_then May Might m n o f h k = record {
  writes = h.writes ++ k.writes;
  each = each-then Might h.writes k.writes h.each (each-weaker May Might f k.writes k.each);
  result = k.result ∙ ap (store_all k.writes) h.result ∙ sym (store_all-then h.writes k.writes m);
}
