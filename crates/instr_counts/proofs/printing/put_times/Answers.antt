use Rattle.instr_counts.proofs.printing.put_times.Goals as goal

pub returns : goal.returns
returns c = rw (c.hex8-address.ensures, c.as_bytes-times.ensures.value, c.format.ensures.text) at c.in_ok-put_line.ensures
