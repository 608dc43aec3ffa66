-- The search keeps what it knows, and at its end has what is live.
use Rattle.std.proofs.Common.{◌≡◌, ◌≢◌, ◌↔◌, ℕ, suc, ◌<◌, ◌≤◌, ◌⊎◌, inl, inr, true, not, ◌&&◌, List, [], ◌∷◌, ◌++◌, length, refl, sym, ap, ◌∙◌, subst, arith}
use Rattle.std.specs.List.{Contains, All}
use Rattle.std.proofs.lemmas.Bool.{cases_eq, cases_lt, or_cases, or_left, or_right, and_parts, and_from, not-true, not_from_false}
use Rattle.std.proofs.lemmas.List.{get_or_default}
use Rattle.std.proofs.lemmas.List.Elements.{Contains-push, Contains-append_left, Contains-push_cases, All-push}
use Rattle.v8_decode.specs.declared.Part.{Part}
use Rattle.v8_decode.specs.Parts.{has}
use Rattle.flood.specs.declared.Link.{Link}
use Rattle.flood.specs.Flood.{Sets, at, link_at, Reaches, IsLiveIn, AreLinks}
use Rattle.flood.specs.Private.{AreAll, last_into, IsTold, IsFlooding, IsGrown}
use Rattle.flood.proofs.Links.{below_last}

module _ {place : ℕ} {more : List Part} {sets : Sets} {stack : List ℕ} {sets' : Sets} {stack' : List ℕ}
    (g : IsGrown place more sets stack sets' stack') where
  -- nothing is lost
  pub kept : (p : ℕ) (x : Part) → has (at sets p) x ≡ true → has (at sets' p) x ≡ true
  kept p x h = by (cases_eq p place)
    where
      by : (p ≡ place) ⊎ (p ≢ place) → has (at sets' p) x ≡ true
      by (inl e) =
          subst (λ (q : ℕ). has (at sets' q) x ≡ true) (sym e)
          (g.here x ∙ or_left _ _ (subst (λ (q : ℕ). has (at sets q) x ≡ true) e h))
      by (inr e) = ap (λ s. has s x) (g.others p e) ∙ h

  -- what is new was in the other set
  pub gained : (p : ℕ) (x : Part) → has (at sets' p) x ≡ true
      → (has (at sets p) x ≡ true) ⊎ ((p ≡ place) × (has more x ≡ true))
  gained p x h = by (cases_eq p place)
    where
      old : p ≡ place → (has (at sets place) x ≡ true) ⊎ (has more x ≡ true)
          → (has (at sets p) x ≡ true) ⊎ ((p ≡ place) × (has more x ≡ true))
      old e (inl k) = inl (subst (λ (q : ℕ). has (at sets q) x ≡ true) (sym e) k)
      old e (inr k) = inr (e, k)

      by : (p ≡ place) ⊎ (p ≢ place) → (has (at sets p) x ≡ true) ⊎ ((p ≡ place) × (has more x ≡ true))
      by (inl e) = old e (or_cases _ _ (sym (g.here x) ∙ subst (λ (q : ℕ). has (at sets' q) x ≡ true) e h))
      by (inr e) = inl (sym (ap (λ s. has s x) (g.others p e)) ∙ h)

  pub on_stack : (p : ℕ) → Contains stack p → Contains stack' p
  on_stack p h = by g.stacked
    where
      by : ((at sets' place ≡ at sets place) × (stack' ≡ stack)) ⊎ (stack' ≡ stack ++ place ∷ []) → Contains stack' p
      by (inl e) = subst (λ (st : List ℕ). Contains st p) (sym e.1) h
      by (inr e) = subst (λ (st : List ℕ). Contains st p) (sym e) (Contains-append_left stack (place ∷ []) p h)

  -- a set that has changed is on the stack
  pub settled : (p : ℕ) → Contains stack' p ⊎ (at sets' p ≡ at sets p)
  settled p = by (cases_eq p place) g.stacked
    where
      by : (p ≡ place) ⊎ (p ≢ place)
          → ((at sets' place ≡ at sets place) × (stack' ≡ stack)) ⊎ (stack' ≡ stack ++ place ∷ [])
          → Contains stack' p ⊎ (at sets' p ≡ at sets p)
      by (inl e) (inl f) = inr (ap (at sets') e ∙ f.0 ∙ ap (at sets) (sym e))
      by (inl e) (inr f) =
          inl (subst (λ (q : ℕ). Contains stack' q) (sym e) (subst (λ (st : List ℕ). Contains st place) (sym f) (Contains-push stack place)))
      by (inr e) f = inr (g.others p e)

module _ {reads : Sets} {links : List Link} where
  -- one link of the place at hand is told
  module _ {place k : ℕ} {more : List Part} {sets : Sets} {stack : List ℕ} {sets' : Sets} {stack' : List ℕ}
      (f : IsFlooding reads links place (suc k) sets stack)
      (g : IsGrown (link_at links k).from more sets stack sets' stack')
      (areLinks : AreLinks (length reads) links)
      (within : k < length links) (to : (link_at links k).to ≡ place)
      (passes : (x : Part) → has more x ≡ (has (at sets place) x && not (has (link_at links k).kills x))) where
    below_again : All (λ p. p < length reads) stack'
    below_again = by g.stacked
      where
        by : ((at sets' (link_at links k).from ≡ at sets (link_at links k).from) × (stack' ≡ stack)) ⊎ (stack' ≡ stack ++ (link_at links k).from ∷ []) → All (λ p. p < length reads) stack'
        by (inl e) = subst (λ (st : List ℕ). All (λ p. p < length reads) st) (sym e.1) f.below
        by (inr e) =
            subst (λ (st : List ℕ). All (λ p. p < length reads) st) (sym e)
            (All-push (λ p. p < length reads) stack _ f.below (areLinks k within).0)

    live_again : (p : ℕ) (x : Part) → has (at sets' p) x ≡ true → IsLiveIn reads links p x
    live_again p x h = by (gained g p x h)
      where
        by : (has (at sets p) x ≡ true) ⊎ ((p ≡ (link_at links k).from) × (has more x ≡ true))
            → IsLiveIn reads links p x
        by (inl old) = f.live p x old
        by (inr new) =
            let parts = and_parts _ _ (sym (passes x) ∙ new.1) in
            let rest = f.live place x parts.0 in
            subst (λ (q : ℕ). IsLiveIn reads links q x) (sym new.0)
            (place ∷ rest.0, ((k, within, refl, to, not-true _ parts.1), rest.1))

    told_again : (j : ℕ) → IsTold links sets j → Contains stack' (link_at links j).to ⊎ IsTold links sets' j
    told_again j told = by (settled g (link_at links j).to)
      where
        by : Contains stack' (link_at links j).to ⊎ (at sets' (link_at links j).to ≡ at sets (link_at links j).to)
            → Contains stack' (link_at links j).to ⊎ IsTold links sets' j
        by (inl h) = inl h
        by (inr e) = inr (λ x h w. kept g _ x (told x (sym (ap (λ s. has s x) e) ∙ h) w))

    told_now : Contains stack' (link_at links k).to ⊎ IsTold links sets' k
    told_now = by (settled g (link_at links k).to)
      where
        by : Contains stack' (link_at links k).to ⊎ (at sets' (link_at links k).to ≡ at sets (link_at links k).to)
            → Contains stack' (link_at links k).to ⊎ IsTold links sets' k
        by (inl h) = inl h
        by (inr e) = inr (λ x h w.
            let here : has (at sets place) x ≡ true =
            ap (λ (q : ℕ). has (at sets q) x) (sym to) ∙ sym (ap (λ s. has s x) e) ∙ h in
            g.here x ∙ or_right _ _ (passes x ∙ and_from _ _ here (not_from_false _ w)))

    pub told_one : (low : ℕ) → low ≡ last_into links place k → IsFlooding reads links place low sets' stack'
    told_one low is = record {
      len = g.len ∙ f.len;
      below = below_again;
      begun = λ p x h. kept g p x (f.begun p x h);
      live = live_again;
      told = λ j l. by j l (f.told j l);
    }
      where
        three : (j : ℕ) → Contains stack' (link_at links j).to ⊎ IsTold links sets' j
            → Contains stack' (link_at links j).to
            ⊎ (IsTold links sets' j ⊎ (((link_at links j).to ≡ place) × (j < low)))
        three j (inl h) = inl h
        three j (inr h) = inr (inl h)

        wait : (j : ℕ) → (link_at links j).to ≡ place → j < suc k → (j < k) ⊎ (k ≤ j)
            → Contains stack' (link_at links j).to
            ⊎ (IsTold links sets' j ⊎ (((link_at links j).to ≡ place) × (j < low)))
        wait j e l (inl less) = inr (inr (e, subst (λ (n : ℕ). j < n) (sym is) (below_last links place k j less e)))
        wait j e l (inr more) =
            let same : k ≡ j = omega arith in
            three j (subst (λ (i : ℕ). Contains stack' (link_at links i).to ⊎ IsTold links sets' i) same told_now)

        by : (j : ℕ) → j < length links
            → Contains stack (link_at links j).to
            ⊎ (IsTold links sets j ⊎ (((link_at links j).to ≡ place) × (j < suc k))) → Contains stack'
            (link_at links j).to ⊎ (IsTold links sets' j ⊎ (((link_at links j).to ≡ place) × (j < low)))
        by j l (inl h) = inl (on_stack g _ h)
        by j l (inr (inl h)) = three j (told_again j h)
        by j l (inr (inr h)) = wait j h.0 h.1 (cases_lt j k)

  -- a place is taken off the stack
  pub taken : {at_hand place : ℕ} {sets : Sets} {stack rest : List ℕ} (low : ℕ)
      → IsFlooding reads links at_hand 0 sets stack
      → stack ≡ rest ++ place ∷ [] → low ≡ last_into links place (length links) → (All (λ p. p < length reads) rest)
      → IsFlooding reads links place low sets rest
  taken {at_hand} {place} {sets} {stack} {rest} low f e is below = record {
    len = f.len;
    below = below;
    begun = f.begun;
    live = f.live;
    told = λ j l. by j l (f.told j l);
  }
    where
      off : (j : ℕ) → j < length links → Contains rest (link_at links j).to ⊎ (place ≡ (link_at links j).to)
          → Contains rest (link_at links j).to ⊎ (IsTold links sets j ⊎ (((link_at links j).to ≡ place) × (j < low)))
      off j l (inl h) = inl h
      off j l (inr h) =
          inr (inr (sym h, subst (λ (n : ℕ). j < n) (sym is) (below_last links place (length links) j l (sym h))))

      by : (j : ℕ) → j < length links
          → Contains stack (link_at links j).to ⊎ (IsTold links sets j ⊎ (((link_at links j).to ≡ at_hand) × (j < 0)))
          → Contains rest (link_at links j).to ⊎ (IsTold links sets j ⊎ (((link_at links j).to ≡ place) × (j < low)))
      by j l (inl h) =
          off j l (Contains-push_cases rest place _ (subst (λ (st : List ℕ). Contains st (link_at links j).to) e h))
      by j l (inr (inl h)) = inr (inl h)
      by j l (inr (inr h)) = let none = h.1 in absurd (omega arith)

  pub moved : {a b : ℕ} {sets : Sets} {stack : List ℕ} → IsFlooding reads links a 0 sets stack
      → IsFlooding reads links b 0 sets stack
  moved {a} {b} {sets} {stack} f = record {
    len = f.len;
    below = f.below;
    begun = f.begun;
    live = f.live;
    told = λ j l. by j (f.told j l);
  }
    where
      by : (j : ℕ)
          → Contains stack (link_at links j).to ⊎ (IsTold links sets j ⊎ (((link_at links j).to ≡ a) × (j < 0)))
          → Contains stack (link_at links j).to ⊎ (IsTold links sets j ⊎ (((link_at links j).to ≡ b) × (j < 0)))
      by j (inl h) = inl h
      by j (inr (inl h)) = inr (inl h)
      by j (inr (inr h)) = let none = h.1 in absurd (omega arith)

  -- at first all places are on the stack
  pub started : (stack : List ℕ) → AreAll (length reads) stack → AreLinks (length reads) links
      → IsFlooding reads links 0 0 reads stack
  started stack all areLinks = record {
    len = refl;
    below = all.below;
    begun = λ p x h. h;
    live = λ p x h. ([], h);
    told = λ k l. inl (here k l);
  }
    where
      here : (k : ℕ) → k < length links → Contains stack (link_at links k).to
      here k l =
          let to = (areLinks k l).1 in
          let low : (link_at links k).to < length stack = omega (arith, all.len) in
          ((link_at links k).to, low, get_or_default stack (link_at links k).to (link_at links k).to 0 low ∙ all.are (link_at links k).to to)

  -- at the end every link is told
  all_live : (at_hand : ℕ) (sets : Sets) → IsFlooding reads links at_hand 0 sets [] → (path : List ℕ) (p : ℕ) (x : Part)
      → Reaches reads links x p path → has (at sets p) x ≡ true
  all_live at_hand sets f [] p x h = f.begun p x h
  all_live at_hand sets f (q ∷ path) p x h = by (f.told k h.0.1) (all_live at_hand sets f path q x h.1)
    where
      k : ℕ
      k = h.0.0

      by : Contains [] (link_at links h.0.0).to ⊎ (IsTold links sets h.0.0 ⊎ (((link_at links h.0.0).to ≡ at_hand) × (h.0.0 < 0))) → has (at sets q) x ≡ true → has (at sets p) x ≡ true
      by (inl c) r = let none = c.1 in absurd (omega arith)
      by (inr (inl told)) r =
          subst (λ (o : ℕ). has (at sets o) x ≡ true) h.0.2
          (told x (subst (λ (o : ℕ). has (at sets o) x ≡ true) (sym h.0.3) r) h.0.4)
      by (inr (inr c)) r = let none = c.1 in absurd (omega arith)

  pub flooded : (at_hand : ℕ) (sets : Sets) (stack : List ℕ) → IsFlooding reads links at_hand 0 sets stack → stack ≡ []
      → (p : ℕ) (x : Part) → (has (at sets p) x ≡ true) ↔ IsLiveIn reads links p x
  flooded at_hand sets stack f e p x =
      let g = subst (λ (st : List ℕ). IsFlooding reads links at_hand 0 sets st) e f in
      (f.live p x, λ l. all_live at_hand sets g l.0 p x l.1)

pub empty : (xs : List ℕ) → length xs ≡ 0 → xs ≡ []
empty [] e = refl
empty (x ∷ xs) e = absurd (omega arith)
