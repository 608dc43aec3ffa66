use Rattle.eel_said.proofs.outcome.put_between.Goals as goal

pub returns : goal.returns
returns g c = rw c.hex8.ensures at c.put_place.ensures
