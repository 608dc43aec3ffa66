use Rattle.std.proofs.Common.{arith, refl, ◌≡◌, ◌-◌, ◌<◌, ℕ, suc, length, sym, ap, ◌∙◌, subst, slice_index, not, ◌&&◌}
use Rattle.std.proofs.lemmas.List.{get_or_read}
use Rattle.v8_decode.specs.Parts.{has}
use Rattle.flood.specs.declared.Link.{Link}
use Rattle.flood.specs.Flood.{AreLinks, link_at}
use Rattle.flood.specs.Private.{IsFlooding, IsGrown, last_into}
use Rattle.flood.proofs.Links.{leads_at, last_into-le}
use Rattle.flood.proofs.Steps.{told_one}
use Rattle.flood.proofs.search.tell.Goals as goal

pub loop-next-init : goal.loop-next-init
loop-next-init c =
    let within : c.args.place < length c.args.chain.now.heads.items = omega (arith, c.requires.chain.heads_len) in
    let is : c.index-next.result.now ≡ slice_index c.args.chain.now.heads.items c.args.place =
    get_or_read _ _ _ within c.index-next.ensures 0 in
    record {
      leads =
          leads_at c.args.links.now c.args.place (length c.args.links.now) _
          (is ∙ c.requires.chain.heads_are c.args.place c.requires.place) (omega arith);
      len = refl;
      told =
          λ reads f. subst
          (λ (n : ℕ). IsFlooding reads c.args.links.now c.args.place n c.args.sets.now.items c.args.stack.now.items)
          (sym is) f;
      falls = omega arith;
    }

pub bounds-links-k : goal.bounds-links-k
bounds-links-k c =
    let h : c.loop-next.next ≡ suc (c.loop-next.next - 1) = omega arith in (c.loop-next.invariant.leads (c.loop-next.next - 1) h).0

pub loop-next-smaller : goal.loop-next-smaller
loop-next-smaller c =
    let k = c.loop-next.next - 1 in
    let h : c.loop-next.next ≡ suc k = omega arith in
    let here = c.loop-next.invariant.leads k h in
    let within : k < length c.args.chain.now.nexts.items = omega (arith, c.requires.chain.nexts_len, here.0) in
    let is : c.index-next-in-loop-next.result.now ≡ slice_index c.args.chain.now.nexts.items k =
    get_or_read _ _ _ within c.index-next-in-loop-next.ensures 0 in
    omega (arith, is, c.requires.chain.nexts_are k here.0, last_into-le c.args.links.now (link_at c.args.links.now k).to k)

pub loop-next-preserved : goal.loop-next-preserved
loop-next-preserved c =
    let k = c.loop-next.next - 1 in
    let h : c.loop-next.next ≡ suc k = omega arith in
    let here = c.loop-next.invariant.leads k h in
    let within : k < length c.args.chain.now.nexts.items = omega (arith, c.requires.chain.nexts_len, here.0) in
    let is : c.index-next-in-loop-next.result.now ≡ slice_index c.args.chain.now.nexts.items k =
    get_or_read _ _ _ within c.index-next-in-loop-next.ensures 0 in
    let low : c.index-next-in-loop-next.result.now ≡ last_into c.args.links.now c.args.place k =
    is ∙ c.requires.chain.nexts_are k here.0 ∙ ap (λ p. last_into c.args.links.now p k) here.1 in
    let inside : c.args.place < length c.loop-next.sets.items =
    omega (arith, c.loop-next.invariant.len, c.requires.place) in
    let link : c.index-links-k.result ≡ link_at c.args.links.now k = get_or_read _ _ _ here.0 c.index-links-k.is _ in
    record {
      leads = leads_at c.args.links.now c.args.place k _ low (omega (arith, here.0));
      len = c.in_ok-grow.ensures.len ∙ c.loop-next.invariant.len;
      told = λ reads f.
          let flooding = c.loop-next.invariant.told reads f in
          let same : length c.args.sets.now.items ≡ length reads = sym c.loop-next.invariant.len ∙ flooding.len in
          told_one (subst (λ (n : ℕ). IsFlooding reads c.args.links.now c.args.place n c.loop-next.sets.items c.loop-next.stack.items) h flooding)
          (subst (λ (l : Link). IsGrown l.from c.minus-more.result c.loop-next.sets.items c.loop-next.stack.items c.grow.new.sets.items c.grow.new.stack.items) link c.in_ok-grow.ensures)
          (subst (λ (n : ℕ). AreLinks n c.args.links.now) same c.requires.links) here.0 here.1
          (λ x. c.minus-more.ensures.has x
          ∙ ap (λ (l : Link). has c.index.result.now x && not (has l.kills x)) link
          ∙ ap (λ s. has s x && not (has (link_at c.args.links.now k).kills x))
          (get_or_read _ _ _ inside c.index.ensures _))
          _ low;
      falls = omega (arith, c.in_ok-grow.ensures.falls, c.loop-next.invariant.falls);
    }

pub offset_bounds-links-k : goal.offset_bounds-links-k
offset_bounds-links-k c =
    let h : c.loop-next.next ≡ suc (c.loop-next.next - 1) = omega arith in
    let low : c.loop-next.next - 1 < length c.args.links.now =
    (c.loop-next.invariant.leads (c.loop-next.next - 1) h).0 in
    omega (arith, c.requires.few)
