use Rattle.std.proofs.Common.{append-nil}
use Rattle.eel_said.proofs.outcome.put_no_counts.Goals as goal

pub returns-in-Version : goal.returns-in-Version
returns-in-Version g c = rw c.in-Version.is (simp append-nil at c.put_numbers.ensures)

pub returns-in-Length : goal.returns-in-Length
returns-in-Length g c = rw c.in-Length.is c.put_numbers-in-Length.ensures

pub returns-in-Shape : goal.returns-in-Shape
returns-in-Shape g c = rw c.in-Shape.is c.put_numbers-in-Shape.ensures

pub returns-in-Steps : goal.returns-in-Steps
returns-in-Steps g c = rw c.in-Steps.is c.put_number.ensures
