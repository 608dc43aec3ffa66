-- What is known of each open switch of a text.
use Rattle.switch_runs.proofs.Common.{◌≡◌, ℕ, suc, ◌+◌, ◌<◌, Bool, true, false, not, ◌&&◌, nat_lt, List, [], ◌∷◌, ◌++◌, length, Option, Some, None, refl, ap, sym, ◌∙◌, arith, slice_index, inl, inr, if◌then◌else◌, ◌==◌, slice_index_or, Contains, list_any, option_to_list, and_parts, cases_Bool, cond_both, eq-eqb, eqb-true, false≢true, nat_tests, Words, IsText, BlockNo, WordNo, BlockEnd, EdgeKind, Approach, Compare, Switch, Blocks, below, blocks_of, end_of, holding_of, last_word, Entered, entered_of, approach_of, compare_of, switch_of, switches_of, bounds, is_jump, switch_behind, switch_into, switch_on, Open, candidate, is_candidate, is_closed, loads_here, opened, opens_of, targets_of, with_switch, AreOpen, cut, is_held, some_words, Each, each-append, each-below, each-flat_map, if_some, switch_at-is, IsOpenSwitch, instr_at, OpensAreOne}
use Rattle.cfg_blocks.specs.declared.BlockEnd.TheVariants as ends
use Rattle.cfg_blocks.specs.declared.Into.{Into}
use Rattle.cfg_blocks.specs.declared.Into.TheVariants as into
use Rattle.std.proofs.lemmas.Option.{same_Some}

-- ---- what a switch is made of

pub record Found (text : Words) (list : Entered) (block : ℕ) (switch : Switch) : Type 0 where
  pub from : BlockNo
  pub way : EdgeKind
  pub cond : ℕ
  pub annul : Bool
  pub target : Option WordNo
  pub compare : Compare
  pub edge : slice_index_or list.intos block into.Nothing ≡ into.One from way
  pub branch : end_of list.blocks from.0 ≡ ends.Branch cond annul target
  pub sets : compare_of text list.blocks from.0 ≡ Some compare
  pub compare_is : switch.compare ≡ from
  pub jump_is : switch.jump.0 ≡ last_word list.blocks.firsts list.blocks.words block

module _ (text : Words) (list : Entered) (block : ℕ) (switch : Switch) where
  abbrev b : Blocks
  b = list.blocks

  found_on : (from : BlockNo) (way : EdgeKind) (cond : ℕ) (annul : Bool) (target : Option WordNo) (c : Option Compare)
      → slice_index_or list.intos block into.Nothing ≡ into.One from way
      → end_of b from.0 ≡ ends.Branch cond annul target → compare_of text b from.0 ≡ c
      → switch_on text b block from.0 annul way c ≡ Some switch → Found text list block switch
  found_on from way cond annul target None e f g h = absurd (cc)
  found_on from way cond annul target (Some c) e f g h =
      let jumps = switch_at-is text (approach_of text b block from.0 annul way c) from.0
      (instr_at text (last_word b.firsts b.words block)) switch refl h in
      search (e, f, g, jumps.from, jumps.at)

  found_behind : (from : BlockNo) (way : EdgeKind) (end : BlockEnd)
      → slice_index_or list.intos block into.Nothing ≡ into.One from way → end_of b from.0 ≡ end
      → switch_behind text b block from.0 way end ≡ Some switch → Found text list block switch
  found_behind from way (ends.Branch cond annul target) e f h =
      found_on from way cond annul target (compare_of text b from.0) e f refl
      (if_some (bounds cond way) (switch_on text b block from.0 annul way (compare_of text b from.0)) switch h).1
  found_behind from way _ e f h = absurd (cc)

  found_into : (x : Into) → slice_index_or list.intos block into.Nothing ≡ x
      → switch_into text b block x ≡ Some switch → Found text list block switch
  found_into (into.One from way) e h = found_behind from way (end_of b from.0) e refl h
  found_into _ e h = absurd (cc)

  pub found_in : (entry : ℕ) → switch_of text list entry block ≡ Some switch
      → Found text list block switch × (is_jump (end_of b block) ≡ true) × ((slice_index b.firsts block == entry) ≡ false)
  unfolding switch_of
  found_in entry h =
      let outer = if_some (is_jump (end_of b block) && not (slice_index b.firsts block == entry)) _ switch h in
      let both = and_parts (is_jump (end_of b block)) (not (slice_index b.firsts block == entry)) outer.0 in (
        found_into (slice_index_or list.intos block into.Nothing) refl outer.1,
        both.0,
        (let e = both.1 in grind arith),
      )

-- ---- candidates

candidate_is : (text : Words) (list : Entered) (entry block : ℕ) (switch : Switch)
    → holding_of list.blocks switch.jump.0 ≡ block → switch_of text list entry block ≡ Some switch
    → Found text list block switch → Each (IsOpenSwitch text list entry) (candidate text list switch)
unfolding candidate
candidate_is text list entry block switch held is f =
    rw made
    (cond_both (is_candidate text a) (o ∷ []) [] (Each (IsOpenSwitch text list entry)) (λ h. (opens h, tt)) (λ _. tt))
  where
    b : Blocks
    b = list.blocks

    a : Approach
    a = approach_of text list.blocks block f.from.0 f.annul f.way f.compare

    o : Open
    o = record { switch = switch; block = block; way = f.way; approach = a; targets = targets_of text switch }

    made : candidate text list switch ≡ (if is_candidate text a then o ∷ [] else [])
    made =
        cc (held, f.edge, eq-eqb switch.compare.0 f.from.0 (ap (λ (n : BlockNo). n.0) f.compare_is), f.branch, f.sets)

    opens : is_candidate text a ≡ true → IsOpenSwitch text list entry o
    opens h =
        let one = and_parts (loads_here text a && nat_lt (a.jump + 1) (length text.words)) (nat_lt (a.last + 1) (length text.words)) h in
        let two = and_parts (loads_here text a) (nat_lt (a.jump + 1) (length text.words)) one.0 in
        record {
          cond = f.cond;
          annul = f.annul;
          is_switch = is;
          parts = record {
            target = f.target;
            edge = f.edge ∙ ap (λ (n : BlockNo). into.One n f.way) (sym f.compare_is);
            branch = ap (λ (n : BlockNo). end_of list.blocks n.0) f.compare_is ∙ f.branch;
            sets = cc (f.compare_is, f.sets);
          };
          approach = ap (λ (n : BlockNo). approach_of text list.blocks block n.0 f.annul f.way f.compare) (sym f.compare_is);
          loads = two.0;
          last = let e = one.1 in grind (arith, nat_tests);
          jump = let e = two.1 in grind (arith, nat_tests);
          targets = refl;
        }

-- ---- all of them

module _ (text : Words) (list : Entered) (entry : ℕ) where
  abbrev AreIsOpen : List Open → Type 0
  AreIsOpen = Each (IsOpenSwitch text list entry)

  opened_are : (opens : List Open) (switches : List Switch) → AreIsOpen opens
      → Each (λ switch. AreIsOpen (candidate text list switch)) switches → AreIsOpen (opened text list opens switches)
  opened_are opens [] h g = h
  opened_are opens (switch ∷ switches) h g =
      opened_are (with_switch text list opens switch) switches
      (cond_both (is_closed text list opens switch) opens (opens ++ candidate text list switch) AreIsOpen (λ _. h)
      (λ _. each-append (IsOpenSwitch text list entry) opens (candidate text list switch) h g.0)) g.1

  pub open_found : (opens : List Open) → AreIsOpen opens → (p : Open → Bool) → list_any p opens ≡ true
      → (o : Open) × Contains opens o × (p o ≡ true) × IsOpenSwitch text list entry o
  open_found [] h p any = absurd (false≢true any)
  open_found (x ∷ xs) h p any = elim (cases_Bool (p x)) [
    | inl e ↦ (x, (0, omega arith, refl), e, h.0)
    | inr e ↦
        let rest = open_found xs h.1 p (rw e at any) in
        let at = rest.1 in
        (rest.0, (suc at.0, omega (arith, at.1), at.2), rest.2, rest.3)
  ]

  pub are_open : (opens : List Open) → AreIsOpen opens → AreOpen list.blocks opens
  are_open opens h block jumps =
      let o = open_found opens h (λ (o : Open). o.block == block) jumps in
      let found = found_in text list o.0.block o.0.switch entry o.3.is_switch in
      cc (eqb-true o.0.block block o.2, found.1)

pub opens_are : (text : Words) (given : List ℕ) (entry : ℕ) → IsText text
    → let list = entered_of text given in
    Each (IsOpenSwitch text list entry) (opens_of text list (switches_of text list entry))
unfolding opens_of entered_of
opens_are text given entry is =
    let list = entered_of text given in
    opened_are text list entry [] (switches_of text list entry) tt
    (each-flat_map (λ switch. Each (IsOpenSwitch text list entry) (candidate text list switch))
    (λ block. option_to_list (switch_of text list entry block)) (below (length list.blocks.firsts))
    (each-below (λ block. Each (λ switch. Each (IsOpenSwitch text list entry) (candidate text list switch))
    (option_to_list (switch_of text list entry block))) (length list.blocks.firsts)
    (λ block l. by block l (switch_of text list entry block) refl)))
  where
    by : (block : ℕ) → block < length (blocks_of text given).firsts → (o : Option Switch)
        → switch_of text (entered_of text given) entry block ≡ o
        → Each (λ switch. Each (IsOpenSwitch text (entered_of text given) entry) (candidate text (entered_of text given) switch))
        (option_to_list o)
    by block l None e = tt
    by block l (Some switch) e =
        let b = blocks_of text given in
        let c = cut text given is.some in
        let found = found_in text (entered_of text given) block switch entry e in
        let jump : switch.jump.0 ≡ last_word b.firsts b.words block = found.0.jump_is in
        let held : holding_of b switch.jump.0 ≡ block = is_held b.words b.firsts c.firsts switch.jump.0 block
        (record {
          within = l;
          above = omega (arith, some_words b.words b.firsts c.firsts block l);
          below = omega (arith, some_words b.words b.firsts c.firsts block l);
        }) in
        (candidate_is text (entered_of text given) entry block switch held e found.0, tt)

-- ---- a block has one open switch

same_way : (a b : BlockNo) (v w : EdgeKind) → into.One a v ≡ into.One b w → v ≡ w
same_way a b v w e = cc

same_annul : (c d : ℕ) (a e : Bool) (t u : Option WordNo) → ends.Branch c a t ≡ ends.Branch d e u → a ≡ e
same_annul c d a e t u h = cc

pub opens_are_one : OpensAreOne
opens_are_one text list entry one other p q block =
    let switch : one.switch ≡ other.switch = same_Some one.switch other.switch
    (sym p.is_switch ∙ ap (switch_of text list entry) block ∙ q.is_switch) in
    let from : one.switch.compare ≡ other.switch.compare = ap (λ (w : Switch). w.compare) switch in
    let way : one.way ≡ other.way = same_way one.switch.compare other.switch.compare one.way other.way
    (cc (p.parts.edge, block, q.parts.edge)) in
    let annul : p.annul ≡ q.annul = same_annul p.cond q.cond p.annul q.annul p.parts.target q.parts.target
    (cc (p.parts.branch, from, q.parts.branch)) in
    let compare : one.approach.compare ≡ other.approach.compare =
    same_Some one.approach.compare other.approach.compare (cc (p.parts.sets, from, q.parts.sets)) in
    let approach : one.approach ≡ other.approach = cc (p.approach, block, from, annul, way, compare, q.approach) in
    let targets : one.targets ≡ other.targets = p.targets ∙ ap (targets_of text) switch ∙ sym q.targets in
    rw (switch, block, way, approach, targets)
