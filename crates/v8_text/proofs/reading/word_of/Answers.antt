use Rattle.std.proofs.Common.{rules, ◌<◌, ◌^◌, sym}
use Rattle.v8_text.proofs.Words.{nothing_read, raw_read, spelled_read, unread}
use Rattle.v8_text.proofs.reading.word_of.Goals as goal

pub returns-in-Some : goal.returns-in-Some
returns-in-Some c =
    let (instr, is, encoded, decoded) = c.in-Some.ensures.again in
    let low : c.args.at.0 < 2 ^ 32 = search rules in
    let fits : c.in-Some.word < 2 ^ 32 = search rules in
    (fits, spelled_read c.args.at.0 c.in-Some.word c.args.text.now instr low fits is encoded decoded)

pub returns-in-Some-raw : goal.returns-in-Some-raw
returns-in-Some-raw c =
    let fits : c.in-Some-raw.word < 2 ^ 32 = search rules in
    (fits, raw_read c.args.at.0 c.in-Some-raw.word c.args.text.now (sym c.in-Some-raw.ensures))

pub returns-in-None-raw : goal.returns-in-None-raw
returns-in-None-raw c =
    let low : c.args.at.0 < 2 ^ 32 = search rules in
    unread c.args.at.0 c.args.text.now low
    (nothing_read c.args.at.0 c.args.text.now (sym c.in-None.ensures.value) (sym c.in-None-raw.ensures))
