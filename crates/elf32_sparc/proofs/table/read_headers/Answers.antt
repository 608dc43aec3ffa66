use Rattle.std.proofs.Common.{arith}
use Rattle.elf32_sparc.proofs.Accepted.{accepted}
use Rattle.elf32_sparc.proofs.Surveys.{headers-none}
use Rattle.elf32_sparc.proofs.Tables.{few_headers, whole_header, aligned, headers-more, headers-all}
use Rattle.elf32_sparc.proofs.table.read_headers.Goals as goal

pub loop-number-init : goal.loop-number-init
loop-number-init c = record {
  read = rw (c.in_ok-headers.ensures.items, c.word_at-table.ensures, c.half_at-count.ensures) (headers-none c.args.bytes.now);
  count = c.in_ok-headers.ensures.len;
}

pub loop-number-preserved : goal.loop-number-preserved
loop-number-preserved c = record {
  read = headers-more c.args.bytes.now c.loop-number.headers.items _ _ c.read.result c.word_at-table.result c.half_at-count.result c.loop-number.number c.loop-number-test.true c.read.ensures.header c.in_ok-push.ensures.items c.loop-number.invariant.read;
  count = omega (arith, c.in_ok-push.ensures.len);
}

pub returns : goal.returns
returns c =
    let ok = accepted c.args.bytes.now c.requires in
    record {
      headers = headers-all c.args.bytes.now c.loop-number.headers.items _ _ c.half_at-count.result c.loop-number.number c.loop-number-test.false c.loop-number.invariant.read;
      few = let most = few_headers c.args.bytes.now ok in let count = c.half_at-count.ensures in omega arith;
      whole = whole_header c.args.bytes.now ok;
      aligned = aligned c.args.bytes.now ok;
    }
