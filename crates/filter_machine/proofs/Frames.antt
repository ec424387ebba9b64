-- The frames as the code holds them, the innermost last.
use Rattle.std.proofs.Common.{◌≡◌, List, map, length, ◌∙◌}
use Rattle.std.proofs.lemmas.List.{length-reverse, length-map}
use Rattle.filter_machine.specs.Held.{frame_view, frames_of}
use Rattle.filter_machine.specs.declared.machine.Frame.{Frame}

pub length_frames : (frames : List Frame) → length (frames_of frames) ≡ length frames
length_frames frames = length-reverse (map frame_view frames) ∙ length-map frames frame_view
