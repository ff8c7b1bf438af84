-- What holds of a core after any calls.
use Rattle.std.specs.Prelude.{◌≡◌, ℕ, ◌+◌, ◌*◌, ◌<◌, ◌≤◌, ◌≢◌, ◌⊎◌, List, length, Some, None, sum_by, Option, slice_index_or}
use Rattle.std.specs.List.{AllByRecursion}
use Rattle.std.specs.Option.{option_len}
use Rattle.rules.specs.declared.buffer.Buffer.{Buffer}
use Rattle.rules.specs.declared.object.Object.{Object}
use Rattle.rules.specs.declared.object.ObjectKind.{ObjectKind}
use Rattle.rules.specs.declared.object.ObjectKind.TheVariants.{InertSubsurface}
use Rattle.rules.specs.State.{Model, Surface, Waiting, most, no_surface, no_object, surface_of}
use Rattle.rules.specs.Table.{record_at, records}
use Rattle.bounds.specs.Forest.{Forest, parent_in}
use Rattle.bounds.specs.Member.{Member, Once}

abbrev pub pending_in : List (Option Surface) → ℕ → List ℕ
pending_in t p = (record_at no_surface t p).pending.order

abbrev pub current_in : List (Option Surface) → ℕ → List ℕ
current_in t p = (record_at no_surface t p).current.order

abbrev pub object_in : List (Option Surface) → ℕ → Option ℕ
object_in t p = (record_at no_surface t p).object

abbrev pub kind_in : List (Option Object) → ℕ → ObjectKind
kind_in os k = (record_at no_object os k).kind

-- the parents are a forest; an order of q has q itself and children of q, and a pending order none of them twice
pub record Orders (t : List (Option Surface)) : Type 0 where
  pub places : length t ≡ most
  pub forest : Forest t
  pub pending : (q c : ℕ) → Member c (pending_in t q) → (c ≡ q) ⊎ (parent_in t c ≡ Some q)
  pub current : (q c : ℕ) → Member c (current_in t q) → (c ≡ q) ⊎ (parent_in t c ≡ Some q)
  pub once : (q : ℕ) → Once (pending_in t q)

-- the surfaces, and the sub-surface objects that link them
pub record Tree (t : List (Option Surface)) (os : List (Option Object)) : Type 0 where
  pub orders : Orders t
  -- a child has a sub-surface object
  pub linked : (p q : ℕ) → parent_in t p ≡ Some q → object_in t p ≢ None
  -- the surface of an inert sub-surface object has no parent
  pub inert : (k p : ℕ) → kind_in os k ≡ InertSubsurface (Some p) → parent_in t p ≡ None
  -- the surface of a sub-surface object, inert or not, knows it
  pub known : (k p : ℕ) → surface_of (kind_in os k) ≡ Some p → object_in t p ≡ Some k

-- how many pixels the span of a buffer record has; spelled out apart from the rules on purpose, so that the theorem judges them
abbrev pub span_length : Buffer → ℕ
span_length b = b.stride * b.height

-- the spans of buffer records lie inside the pixel memory, and none meets another
pub record Spans (size : ℕ) (bs : List (Option Buffer)) : Type 0 where
  pub inside : (a : ℕ) (f : Buffer) → slice_index_or bs a None ≡ Some f → f.first + span_length f ≤ size
  pub apart : (a b : ℕ) (f g : Buffer) → a ≢ b → slice_index_or bs a None ≡ Some f → slice_index_or bs b None ≡ Some g
      → (f.first + span_length f ≤ g.first) ⊎ (g.first + span_length g ≤ f.first)

-- how many holds are on the glass: current ones that have a mark, and waiting ones
abbrev pub on_glass : List (Option Surface) → List Waiting → ℕ
on_glass t ws = sum_by (λ s. option_len s.current.mark) (records t) + length ws

-- a surface is raised once
pub record Roots (ps : List ℕ) : Type 0 where
  pub once : Once ps
  pub places : AllByRecursion (λ p. p < most) ps

pub record Sound (m : Model) : Type 0 where
  pub tree : Tree m.surfaces m.objects
  pub spans : Spans m.size m.buffers
  pub glass : on_glass m.surfaces m.waiting ≤ most
  pub roots : Roots m.roots
  pub callbacks : length m.callbacks ≤ 64
