-- What contracts see of the machine's values: the states of the machines.
use Rattle.std.specs.Prelude.{◌≡◌, ℕ, List, map, reverse}
use Rattle.filter_machine.specs.Machine.{State, start, attribute, value, low, high, refused, in_list, first, item, after_comma, being, not_being, done, Level, level_of, Frame as FrameData, under_not, bracket, Machine as MachineData, Reading as ReadingData, reading}
use Rattle.filter_machine.specs.Text.{Class as ClassData, space, letter, quote, bang, greater, less, single, strange}
use Rattle.filter_machine.specs.declared.scan.Class.{Class}
use Rattle.filter_machine.specs.declared.scan.Quote.{Quote}
use Rattle.filter_machine.specs.declared.scan.Quote.TheVariants.{Single, Double}
use Rattle.filter_machine.specs.declared.scan.Class.TheVariants as k
use Rattle.filter_machine.specs.declared.machine.Place.{Place}
use Rattle.filter_machine.specs.declared.machine.Place.TheVariants as p
use Rattle.filter_machine.specs.declared.machine.Level.{Level as Built}
use Rattle.filter_machine.specs.declared.machine.Frame.{Frame}
use Rattle.filter_machine.specs.declared.machine.Frame.TheVariants as f
use Rattle.filter_machine.specs.declared.machine.Machine.{Machine}
use Rattle.filter_machine.specs.declared.machine.Reading.{Reading}
use Rattle.filter_tree.specs.View.{view}

abbrev pub place_view : Place → State
place_view p.Start = start
place_view (p.Attribute a) = attribute a
place_view (p.Value a c) = value a c
place_view (p.Low a b) = low a b
place_view (p.High a b) = high a b
place_view (p.Refused a) = refused a
place_view (p.InList a n) = in_list a n
place_view (p.First a n) = first a n
place_view (p.Item a n vs) = item a n vs.items
place_view (p.AfterComma a n vs) = after_comma a n vs.items
place_view (p.Being a) = being a
place_view (p.NotBeing a) = not_being a
place_view p.Done = done

abbrev pub level_view : Built → Level
level_view l = level_of (map view l.ors.items) (map view l.ands.items) l.bad

abbrev pub frame_view : Frame → FrameData
frame_view f.Not = under_not
frame_view (f.Bracket ors ands) = bracket (map view ors.items) (map view ands.items)

-- the code has the innermost frame last
abbrev pub frames_of : List Frame → List FrameData
frames_of frames = reverse (map frame_view frames)

abbrev pub held : State → Built → List Frame → MachineData
held s l o = record { state = s; level = level_view l; outer = frames_of o }

abbrev pub machine_view : Machine → MachineData
machine_view m = held (place_view m.place) m.level m.outer.items

abbrev pub reading_view : Reading → ReadingData
reading_view r = reading (view r.tree) r.bad

abbrev pub class_view : Class → ClassData
class_view k.Space = space
class_view k.Letter = letter
class_view (k.Quote q) = quote
class_view k.Bang = bang
class_view k.Greater = greater
class_view k.Less = less
class_view (k.Single t) = single t
class_view k.Strange = strange

abbrev pub quote_byte : Quote → ℕ
quote_byte Single = 39
quote_byte Double = 34

-- which quote it is
abbrev pub QuoteIs : Class → ℕ → Type 0
QuoteIs (k.Quote q) b = quote_byte q ≡ b
QuoteIs _ b = Unit {0}
