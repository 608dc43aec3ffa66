-- Weights of sets of edges.
use Rattle.flows.proofs.Common.{◌≡◌, ℕ, zero, suc, ◌+◌, ◌<◌, Bool, true, false, not, ◌||◌, ◌&&◌, refl, ap, sym, ◌∙◌, arith, ◌==◌, ne_eqb, weight_below}

pub weight_same : (n : ℕ) (w : ℕ → ℕ) (s r : ℕ → Bool) → ((e : ℕ) → e < n → s e ≡ r e) → weight_below n w s ≡ weight_below n w r
weight_same zero w s r h = refl
weight_same (suc n) w s r h = cc (weight_same n w s r (λ e l. h e (omega arith)), h n (omega arith))

pub weight_none : (n : ℕ) (w : ℕ → ℕ) (s : ℕ → Bool) → ((e : ℕ) → e < n → s e ≡ false) → weight_below n w s ≡ 0
weight_none zero w s h = refl
weight_none (suc n) w s h = cc (weight_none n w s (λ e l. h e (omega arith)), h n (omega arith))

pub weight_join : (n : ℕ) (w : ℕ → ℕ) (s r : ℕ → Bool) → ((e : ℕ) → e < n → s e ≡ true → r e ≡ true → ⊥) → weight_below n w (λ e. s e || r e) ≡ weight_below n w s + weight_below n w r
weight_join zero w s r h = refl
weight_join (suc n) w s r h =
    let a = weight_join n w s r (λ e l. h e (omega arith)) in
    let b = h n (omega arith) in
    grind (arith, a, b)

pub weight_one : (n : ℕ) (w : ℕ → ℕ) (h : ℕ) → h < n → weight_below n w (λ e. e == h) ≡ w h
weight_one zero w h l = absurd (omega arith)
weight_one (suc n) w h l =
    let a = weight_none n w (λ e. e == h) in
    let b = weight_one n w h in
    let z = (λ (c : n ≡ h). a (λ e b. ne_eqb e h (λ d. omega arith))) in
    grind (arith, z, b)

-- an edge more
pub weight_more : (n : ℕ) (w : ℕ → ℕ) (s : ℕ → Bool) (h : ℕ) → h < n → s h ≡ false → weight_below n w (λ e. (e == h) || s e) ≡ w h + weight_below n w s
weight_more n w s h l f =
    weight_join n w (λ e. e == h) s (λ e b p q. grind arith) ∙ ap (λ k. k + weight_below n w s) (weight_one n w h l)

-- an edge less
abbrev pub without : (ℕ → Bool) → ℕ → ℕ → Bool
without s h = λ e. s e && not (e == h)

pub weight_less : (n : ℕ) (w : ℕ → ℕ) (s : ℕ → Bool) (h : ℕ) → h < n → s h ≡ true → weight_below n w s ≡ w h + weight_below n w (without s h)
weight_less n w s h l t =
    weight_same n w s (λ e. (e == h) || without s h e) (λ e b. grind arith) ∙ weight_more n w (without s h) h l (grind arith)

-- a set and the rest
pub weight_rest : (n : ℕ) (w : ℕ → ℕ) (s : ℕ → Bool) → weight_below n w s + weight_below n w (λ e. not (s e)) ≡ weight_below n w (λ e. true)
weight_rest n w s =
    sym (weight_join n w s (λ e. not (s e)) (λ e l a b. grind arith)) ∙ weight_same n w _ _ (λ e l. grind arith)
