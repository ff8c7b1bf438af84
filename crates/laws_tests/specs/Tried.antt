-- The laws' definitions tried on some runs. A run is written here with its first call first; its history is that list reversed.
use Rattle.std.specs.Prelude.{◌≡◌, ℕ, Bool, true, false, List, [], ◌∷◌, ◌++◌, reverse, replicate, Some, None, Option}
use Rattle.std.specs.Option.{option_map}
use Rattle.model.specs.Pixel.{black}
use Rattle.rules.specs.Call.{Call, paint_call, switch_call, frame_call, rule}
use Rattle.rules.specs.Hold.{holds}
use Rattle.examples.specs.Calls.{ask, create_surface, attach, ask_frame, commit, set_desync, make_buffer, switch_on, frame, show, event}
use Rattle.examples.specs.Examples.{alone, strip}
use Rattle.laws.specs.History.{SameMemory, SameSize, model_after}
use Rattle.laws.specs.Picture.{pixels, last_picture}
use Rattle.laws.specs.Object.{Made, made, buffer, callback, last_object}
use Rattle.laws.specs.Buffer.{commits, counted_place}
use Rattle.laws.specs.Callback.{first_due}
use Rattle.laws.specs.Entry.{Entry, received}
use Rattle.laws.specs.Laws.{Balanced, RunLaws}

abbrev pub start : List ℕ
start = replicate 1000 0x0044_5566

abbrev pub history : List Call → List Call
history run = reverse run

-- the entries of a history with the events that the rules give
abbrev pub by_rules : List Call → List Entry
by_rules [] = []
by_rules (c ∷ cs) = record { call = c; events = (rule c (model_after 1000 cs)).events } ∷ by_rules cs

-- the laws after a run in which events, glass and memory are as the rules have them
abbrev pub Kept : List Call → Type 0
Kept run =
    RunLaws start (record { width = 8; height = 8 }) (by_rules (history run)) (last_picture start (history run)) (pixels start (history run))

abbrev pub pixel_after : List Call → ℕ
pixel_after run = last_picture start (history run) 0 0

-- of a buffer: commits that carried it, releases that the rules give it, and holds of it, while these are counted
abbrev pub tally : Made → List Call → ℕ × ℕ × Option ℕ
tally o run =
    (commits 1000 o (history run), received 1000 o (by_rules (history run)), option_map (holds (model_after 1000 (history run))) (counted_place 1000 o (history run)))

-- a root 10 has no buffer yet, buffer 5 is painted, the output is on
abbrev pub ready : List Call
ready = alone ++ paint_call 0 5 0 (0x0011_2233 ∷ []) 1000 ∷ switch_on ∷ []

-- a frame shows buffer 5 and answers the callback 20
abbrev pub one_frame : List Call
one_frame = ready ++ ask_frame 10 20 ∷ show 10 5 ++ frame 7 ∷ []

-- then buffer 6 is committed, and shown by another frame
abbrev pub replaced : List Call
replaced = one_frame ++ show 10 6

abbrev pub two_frames : List Call
two_frames = replaced ++ frame 8 ∷ []

-- or the output is switched on once more, and off and on
abbrev pub on_again : List Call
on_again = one_frame ++ switch_on ∷ []

abbrev pub off_and_on : List Call
off_and_on = one_frame ++ switch_call false (record { width = 8; height = 8 }) 160 ∷ switch_on ∷ []

-- or buffer 5 is destroyed while it is held, and its id is used again
abbrev pub destroyed : List Call
destroyed = one_frame ++ ask 5 0 [] ∷ []

abbrev pub used_again : List Call
used_again = destroyed ++ make_buffer 5 12 ∷ []

-- buffer 5 is made by the first call
abbrev pub buffer_5 : Made
buffer_5 = made 1 0 5 buffer

-- a core that releases buffer 5 when it is replaced, while it is on the glass
abbrev pub too_early : List Entry
too_early =
    record { call = commit 10; events = event 5 0 0 ∷ [] } ∷ by_rules (history (one_frame ++ attach 10 6 ∷ []))

-- the callback 20 of the strip 11, by the eleventh call, is cached when a frame comes, and applied after it
abbrev pub callback_20 : Made
callback_20 = made 11 0 20 (callback 11)

abbrev pub cached : List Call
cached = strip ++ frame 7 ∷ []

abbrev pub brought_in : List Call
brought_in = cached ++ set_desync 12 ∷ []

abbrev pub answered : List Call
answered = brought_in ++ frame 8 ∷ []

-- or the strip is destroyed before the next frame, and its id used again
abbrev pub surface_ended : List Call
surface_ended = brought_in ++ ask 11 0 [] ∷ create_surface 11 ∷ []

-- whether a frame after the run is the first that callback 20 is due in
abbrev pub due_after : List Call → Bool
due_after run = first_due 1000 callback_20 11 (frame 8) (history run)

pub record Tried : Type 0 where
  -- the last picture is black, then the frame's, also once another buffer is committed, until the next frame; and black when the output goes from off to on
  pub black_at_first : pixel_after ready ≡ black
  pub shown : pixel_after one_frame ≡ 0xff11_2233
  pub stays : pixel_after replaced ≡ 0xff11_2233
  pub next_shown : pixel_after two_frames ≡ 0xff44_5566
  pub left_as_it_is : pixel_after on_again ≡ 0xff11_2233
  pub black_again : pixel_after off_and_on ≡ black
  -- the hold on the glass waits, and the next frame releases it
  pub held : tally buffer_5 one_frame ≡ (1, 0, Some 1)
  pub waiting : tally buffer_5 replaced ≡ (1, 0, Some 1)
  pub released : tally buffer_5 two_frames ≡ (1, 1, Some 0)
  pub at_its_end : tally buffer_5 destroyed ≡ (1, 0, Some 1)
  pub after_its_end : tally buffer_5 used_again ≡ (1, 0, None)
  pub renewed : last_object 1000 (history used_again) 0 5 ≡ Some (made 12 0 5 buffer)
  -- a callback is due in the first frame after its state was applied, and never once its surface has ended
  pub not_applied : due_after cached ≡ false
  pub due_now : due_after brought_in ≡ true
  pub due_once : due_after answered ≡ false
  pub done_once : received 1000 callback_20 (by_rules (history answered)) ≡ 1
  pub not_after_end : due_after surface_ended ≡ false
  -- a paint and a frame may be lent no other pixel memory, and a switch no presenter of another size
  pub other_memory_painted : SameMemory 1000 (paint_call 0 5 0 [] 999) → ⊥
  pub other_memory_shown : SameMemory 1000 (frame_call 7 999 160) → ⊥
  pub other_presenter : SameSize (record { width = 8; height = 8 }) (switch_call true (record { width = 9; height = 8 }) 160) → ⊥
  -- all laws, in two runs
  pub one_frame_kept : Kept one_frame
  pub two_frames_kept : Kept two_frames
  -- a release that comes too early breaks the balance
  pub too_early_refused : Balanced 1000 too_early buffer_5 → ⊥
