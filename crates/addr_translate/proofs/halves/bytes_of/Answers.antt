use Rattle.addr_translate.proofs.Common.{◌≡◌, ◌/◌, ℕ, map, ap, ◌∙◌, arith, w32, to_be_bytes, flat_map, range_with_len, half_entry, half_bytes, half_words, halves_size}
use Rattle.addr_translate.proofs.Tables.{more_entries, more_fit}
use Rattle.addr_translate.proofs.halves.bytes_of.Goals as goal

pub loop-n-preserved : goal.loop-n-preserved
loop-n-preserved c =
    let at = half_entry c.args.text.now c.args.targets.now c.args.foreign c.args.base.0 in
    record {
      written = more_entries at c.loop-n.n c.half_entry.result _ _ c.loop-n.invariant.written c.half_entry.ensures
          c.in_ok-put_word.ensures;
      fits = λ k h. more_fit at c.loop-n.n c.half_entry.result k c.loop-n.invariant.fits c.half_entry.ensures
          c.half_entry.type_inv h;
    }

pub returns-clause-bytes : goal.returns-clause-bytes
unfolding half_bytes half_words
returns-clause-bytes c =
    c.loop-n.invariant.written
    ∙ ap (λ (z : ℕ). flat_map (to_be_bytes w32)
    (map (half_entry c.args.text.now c.args.targets.now c.args.foreign c.args.base.0) (range_with_len 0 z)))
    (let e : c.loop-n.n ≡ halves_size c.args.text.now / 4 = omega
    (arith, c.loop-n-test.false, c.loop-n.auto.n-end, c.halves_size-size.ensures.value) in e)
