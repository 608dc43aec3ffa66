use Rattle.eel.proofs.ExactProfiles.{edits_are_profiles}
use Rattle.eel.proofs.profiles.edits_are_profiles.Goals as goal

pub returns : goal.returns
returns c = edits_are_profiles
