use Rattle.addr_translate.proofs.Common.{◌≡◌, ◌*◌, ℕ, map, ap, ◌∙◌, arith, w32, to_be_bytes, flat_map, range_with_len, entry, table_bytes, table_words, blocks}
use Rattle.addr_translate.proofs.Tables.{more_entries, more_fit}
use Rattle.addr_translate.proofs.table.bytes_of.Goals as goal

pub loop-n-preserved : goal.loop-n-preserved
loop-n-preserved c =
    let at = entry c.args.text.now c.args.targets.now c.args.foreign c.args.base.0 in
    record {
      written = more_entries at c.loop-n.n c.entry.result _ _ c.loop-n.invariant.written c.entry.ensures
          c.in_ok-put_word.ensures;
      fits = λ k h. more_fit at c.loop-n.n c.entry.result k c.loop-n.invariant.fits c.entry.ensures c.entry.type_inv h;
    }

pub returns-clause-bytes : goal.returns-clause-bytes
unfolding table_bytes table_words
returns-clause-bytes c =
    c.loop-n.invariant.written
    ∙ ap (λ (z : ℕ). flat_map (to_be_bytes w32)
    (map (entry c.args.text.now c.args.targets.now c.args.foreign c.args.base.0) (range_with_len 0 z)))
    (let e : c.loop-n.n ≡ 1024 * blocks c.args.text.now = omega
    (arith, c.loop-n-test.false, c.loop-n.auto.n-end, c.block_count-count.ensures.value) in e)
