-- The editor's words stay the editor's.
use Rattle.code_runs.proofs.Common.{◌≡◌, ℕ, ◌<◌, Bool, true, false, ◌&&◌, Option, Some, None, List, [], ◌∷◌, refl, ap, sym, ◌∙◌, subst, if◌then◌else◌, w32, to_be_bytes, find, option_map, Instr, Memory, Region, covers, changed, written, Span, IsApartFromAll, AllApart, covers-written, find-written, State, act, judged_by, HasNot, IsAmongWords, AreOwn, IsOurs, OursStay, OursAreStored, store_word, store_all, AllAt, kept_act}
use Rattle.v8_memory.specs.Code.{without_execution, IsSameRegion, IsSameOutside}
use Rattle.code_runs.proofs.Stays.{not_heap, there_written, words_stay}

has_not_written : (a b : ℕ) (bs : List ℕ) (o : Option Region) → HasNot a o → HasNot a (option_map (written b bs) o)
has_not_written a b bs None h = tt
has_not_written a b bs (Some r) h = covers-written a 4 b bs r ∙ h

-- ---- memory outside the pages

unwritten : (a v : ℕ) (r : Region) → covers a 4 r ≡ false → written a (to_be_bytes w32 v) r ≡ r
unwritten a v r h = ap (λ (z : Bool). if z && r.writable then changed a (to_be_bytes w32 v) r else r) h

same_unwritten : (a v : ℕ) (o : Option Region) → HasNot a o
    → IsSameRegion o (option_map (written a (to_be_bytes w32 v)) o)
same_unwritten a v None h = tt
same_unwritten a v (Some r) h = ap without_execution (sym (unwritten a v r h))

region_refl : (o : Option Region) → IsSameRegion o o
region_refl None = tt
region_refl (Some r) = refl

pub outside_refl : (pages : List Span) (m : Memory) → IsSameOutside pages m m
outside_refl pages m = record { heap = refl; outside = λ a c some apart. region_refl _ }

region_trans : (x y z : Option Region) → IsSameRegion x y → IsSameRegion y z → IsSameRegion x z
region_trans None None z h k = k
region_trans (Some a) (Some b) (Some c) h k = h ∙ k
region_trans (Some a) (Some b) None h k = k
region_trans _ _ z h k = absurd h

pub outside_trans : (pages : List Span) (m n o : Memory) → IsSameOutside pages m n → IsSameOutside pages n o
    → IsSameOutside pages m o
outside_trans pages m n o h k = record {
  heap = h.heap ∙ k.heap;
  outside = λ address count some apart. region_trans _ _ _ (h.outside address count some apart)
      (k.outside address count some apart);
}

module _ (pages : List Span) (own : List ℕ) where
  -- ---- words stored

  same_stored : (m : Memory) (a v : ℕ) → IsOurs pages own m → IsAmongWords own a
      → IsSameOutside pages m (store_word m a v)
  unfolding store_word
  same_stored m a v h among = record {
    heap = sym (unwritten a v m.heap (not_heap a true m (h.words a among)));
    outside = λ b c some apart.
        rw (find-written b c a (to_be_bytes w32 v) m.regions)
        (same_unwritten a v (find (covers b c) m.regions) (h.alone a b c among some apart));
  }

  ours_stored : (m : Memory) (b v : ℕ) → IsOurs pages own m → IsOurs pages own (store_word m b v)
  unfolding store_word
  ours_stored m b v h = record {
    words = λ a among. there_written a b true (to_be_bytes w32 v) m (h.words a among);
    alone = λ a from count among some apart.
        subst (HasNot a) (sym (find-written from count b (to_be_bytes w32 v) m.regions))
        (has_not_written a b (to_be_bytes w32 v) _ (h.alone a from count among some apart));
  }

  all_stored : (ws : List (ℕ × ℕ)) (m : Memory) → IsOurs pages own m → AllAt (IsAmongWords own) ws
      → IsOurs pages own (store_all ws m) × IsSameOutside pages m (store_all ws m)
  all_stored [] m h among = (h, outside_refl pages m)
  all_stored (w ∷ ws) m h among =
      let a = same_stored m w.0 w.1 h among.0 in
      let rest = all_stored ws (store_word m w.0 w.1) (ours_stored m w.0 w.1 h) among.1 in
      (rest.0, outside_trans pages _ _ _ a rest.1)

  -- ---- after an instruction

  abbrev Alone : Memory → Type 0
  Alone m =
      (a from count : ℕ) → IsAmongWords own a → 0 < count
      → IsApartFromAll pages (record { from = from; count = count }) → HasNot a (find (covers from count) m.regions)

  record Keeps (m n : Memory) : Type 0 where
    pub keeps : Alone m → Alone n

  still_ours : (s : State) (x : Instr) → AreOwn pages own → IsOurs pages own s.memory → AllApart pages (judged_by s x)
      → IsOurs pages own (act s x).memory
  still_ours s x are h apart =
      let k : Keeps s.memory (act s x).memory =
      kept_act pages Keeps (λ m. record { keeps = λ f. f }) (λ m n o a b. record { keeps = λ f. b.keeps (a.keeps f) })
      (λ b bs m some z. record {
        keeps = λ f a from count among pos out.
            subst (HasNot a) (sym (find-written from count b bs m.regions))
            (has_not_written a b bs _ (f a from count among pos out));
      })
      (λ m b e. record { keeps = λ f. f }) s.memory s x (record { keeps = λ f. f }) apart in
      record {
        words = λ a among. (words_stay pages a true s x (are.within a among) apart (h.words a among)).0;
        alone = k.keeps h.alone;
      }

pub ours_stay : OursStay
ours_stay pages own s x are h apart = still_ours pages own s x are h apart

pub ours_are_stored : OursAreStored
ours_are_stored pages own m n h k =
    rw k.result (all_stored pages own k.writes m h k.each)
