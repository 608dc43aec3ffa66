use Rattle.image_code.proofs.Common.{◌≡◌, ◌<◌, ◌^◌, length, AreSwitchesNoted, open_begin}
use Rattle.image_code.proofs.first_images.note_switches.Given as goal

abbrev pub invariant-loop-found : goal.invariant-loop-found
invariant-loop-found l = record {
  noted : AreSwitchesNoted l.text l.graph l.found-index l.initial.images l.images;
  long : length l.images ≡ length l.initial.images;
  here : l.begin ≡ open_begin l.text l.graph l.found-index;
  few : l.begin < 2 ^ 32;
}
