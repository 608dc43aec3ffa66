use Rattle.std.proofs.Common.{append-nil}
use Rattle.eel_said.proofs.outcome.put_line.Goals as goal

pub returns-in-BadWords : goal.returns-in-BadWords
returns-in-BadWords g c = rw c.in-BadWords.is c.put_pieces.ensures

pub returns-in-OutOfMemory : goal.returns-in-OutOfMemory
returns-in-OutOfMemory g c = rw c.in-OutOfMemory.is c.put_pieces-in-OutOfMemory.ensures

pub returns-in-DeviceFault : goal.returns-in-DeviceFault
returns-in-DeviceFault g c = rw c.in-DeviceFault.is c.put_pieces-in-DeviceFault.ensures

pub returns-in-BadFile : goal.returns-in-BadFile
returns-in-BadFile g c = rw c.in-BadFile.is (simp append-nil at c.put_number.ensures)

pub returns-in-TooLong : goal.returns-in-TooLong
returns-in-TooLong g c = rw c.in-TooLong.is c.put_number-in-TooLong.ensures

pub returns-in-NoRoom : goal.returns-in-NoRoom
returns-in-NoRoom g c = rw c.in-NoRoom.is c.put_numbers.ensures

pub returns-in-NoNotes : goal.returns-in-NoNotes
returns-in-NoNotes g c = rw c.in-NoNotes.is c.put_about.ensures

pub returns-in-BadNotes : goal.returns-in-BadNotes
returns-in-BadNotes g c = rw c.in-BadNotes.is (simp append-nil at c.put_number-in-BadNotes.ensures)

pub returns-in-BadDump : goal.returns-in-BadDump
returns-in-BadDump g c = rw c.in-BadDump.is (simp append-nil at c.put_number-in-BadDump.ensures)

pub returns-in-NoProfile : goal.returns-in-NoProfile
returns-in-NoProfile g c = rw c.in-NoProfile.is c.put_about-in-NoProfile.ensures

pub returns-in-NotEveryWord : goal.returns-in-NotEveryWord
returns-in-NotEveryWord g c = rw c.in-NotEveryWord.is c.put_about-in-NotEveryWord.ensures

pub returns-in-NoTrace : goal.returns-in-NoTrace
returns-in-NoTrace g c = rw c.in-NoTrace.is c.put_about-in-NoTrace.ensures

pub returns-in-BadCell : goal.returns-in-BadCell
returns-in-BadCell g c = rw c.in-BadCell.is (simp append-nil at c.put_numbers-in-BadCell.ensures)
