-- States with one field changed.
use Rattle.std.specs.Prelude.{ℕ, Bool, List, ℤ, Some, None, Option, slice_set}
use Rattle.rules.specs.declared.attach.Attach.{Attach}
use Rattle.rules.specs.declared.buffer.Buffer.{Buffer}
use Rattle.rules.specs.declared.callback.Callback.{Callback}
use Rattle.rules.specs.declared.object.Object.{Object}
use Rattle.rules.specs.declared.role.Role.{Role}
use Rattle.rules.specs.Table.{changed}
use Rattle.rules.specs.State.{Model, Surface, Pending, Current, Waiting}

-- a surface with another pending or current state
abbrev pub with_pending : Pending → Surface → Surface
with_pending v s =
    record { client = s.client; id = s.id; role = s.role; parent = s.parent; object = s.object; sync = s.sync; pending = v; cached = s.cached; current = s.current }

abbrev pub with_current : Current → Surface → Surface
with_current v s =
    record { client = s.client; id = s.id; role = s.role; parent = s.parent; object = s.object; sync = s.sync; pending = s.pending; cached = s.cached; current = v }

abbrev pub with_role : Option Role → Surface → Surface
with_role v s =
    record { client = s.client; id = s.id; role = v; parent = s.parent; object = s.object; sync = s.sync; pending = s.pending; cached = s.cached; current = s.current }

abbrev pub with_parent : Option ℕ → Surface → Surface
with_parent v s =
    record { client = s.client; id = s.id; role = s.role; parent = v; object = s.object; sync = s.sync; pending = s.pending; cached = s.cached; current = s.current }

abbrev pub with_object : Option ℕ → Surface → Surface
with_object v s =
    record { client = s.client; id = s.id; role = s.role; parent = s.parent; object = v; sync = s.sync; pending = s.pending; cached = s.cached; current = s.current }

abbrev pub with_sync : Bool → Surface → Surface
with_sync v s =
    record { client = s.client; id = s.id; role = s.role; parent = s.parent; object = s.object; sync = v; pending = s.pending; cached = s.cached; current = s.current }

abbrev pub with_cached : Attach → Surface → Surface
with_cached v s =
    record { client = s.client; id = s.id; role = s.role; parent = s.parent; object = s.object; sync = s.sync; pending = s.pending; cached = v; current = s.current }

abbrev pub with_attach : Attach → Surface → Surface
with_attach v s = with_pending (record { attach = v; x = s.pending.x; y = s.pending.y; order = s.pending.order }) s

abbrev pub with_pending_position : ℤ → ℤ → Surface → Surface
with_pending_position a b s = with_pending (record { attach = s.pending.attach; x = a; y = b; order = s.pending.order }) s

abbrev pub with_pending_order : List ℕ → Surface → Surface
with_pending_order v s = with_pending (record { attach = s.pending.attach; x = s.pending.x; y = s.pending.y; order = v }) s

abbrev pub with_hold : Option ℕ → Surface → Surface
with_hold v s =
    with_current (record { hold = v; mark = s.current.mark; x = s.current.x; y = s.current.y; order = s.current.order }) s

abbrev pub with_mark : Option ℕ → Surface → Surface
with_mark v s =
    with_current (record { hold = s.current.hold; mark = v; x = s.current.x; y = s.current.y; order = s.current.order }) s

abbrev pub with_position : ℤ → ℤ → Surface → Surface
with_position a b s =
    with_current (record { hold = s.current.hold; mark = s.current.mark; x = a; y = b; order = s.current.order }) s

abbrev pub with_order : List ℕ → Surface → Surface
with_order v s =
    with_current (record { hold = s.current.hold; mark = s.current.mark; x = s.current.x; y = s.current.y; order = v }) s

-- the model, field by field
abbrev pub with_surfaces : List (Option Surface) → Model → Model
with_surfaces v m =
    record { surfaces = v; buffers = m.buffers; callbacks = m.callbacks; objects = m.objects; roots = m.roots; waiting = m.waiting; on = m.on; size = m.size }

abbrev pub with_buffers : List (Option Buffer) → Model → Model
with_buffers v m =
    record { surfaces = m.surfaces; buffers = v; callbacks = m.callbacks; objects = m.objects; roots = m.roots; waiting = m.waiting; on = m.on; size = m.size }

abbrev pub with_callbacks : List Callback → Model → Model
with_callbacks v m =
    record { surfaces = m.surfaces; buffers = m.buffers; callbacks = v; objects = m.objects; roots = m.roots; waiting = m.waiting; on = m.on; size = m.size }

abbrev pub with_objects : List (Option Object) → Model → Model
with_objects v m =
    record { surfaces = m.surfaces; buffers = m.buffers; callbacks = m.callbacks; objects = v; roots = m.roots; waiting = m.waiting; on = m.on; size = m.size }

abbrev pub with_roots : List ℕ → Model → Model
with_roots v m =
    record { surfaces = m.surfaces; buffers = m.buffers; callbacks = m.callbacks; objects = m.objects; roots = v; waiting = m.waiting; on = m.on; size = m.size }

abbrev pub with_waiting : List Waiting → Model → Model
with_waiting v m =
    record { surfaces = m.surfaces; buffers = m.buffers; callbacks = m.callbacks; objects = m.objects; roots = m.roots; waiting = v; on = m.on; size = m.size }

abbrev pub with_on : Bool → Model → Model
with_on v m =
    record { surfaces = m.surfaces; buffers = m.buffers; callbacks = m.callbacks; objects = m.objects; roots = m.roots; waiting = m.waiting; on = v; size = m.size }

-- one record put at its place
abbrev pub put_surface : ℕ → Surface → Model → Model
put_surface p s m = with_surfaces (slice_set m.surfaces p (Some s)) m

abbrev pub put_buffer : ℕ → Buffer → Model → Model
put_buffer b f m = with_buffers (slice_set m.buffers b (Some f)) m

abbrev pub put_object : ℕ → Object → Model → Model
put_object k o m = with_objects (slice_set m.objects k (Some o)) m

-- one record taken from its place
abbrev pub free_surface : ℕ → Model → Model
free_surface p m = with_surfaces (slice_set m.surfaces p None) m

abbrev pub free_object : ℕ → Model → Model
free_object k m = with_objects (slice_set m.objects k None) m

-- one record changed at its place
abbrev pub edit_surface : ℕ → (Surface → Surface) → Model → Model
edit_surface p f m = with_surfaces (changed p f m.surfaces) m

abbrev pub edit_object : ℕ → (Object → Object) → Model → Model
edit_object k f m = with_objects (changed k f m.objects) m

abbrev pub edit_buffer : ℕ → (Buffer → Buffer) → Model → Model
edit_buffer b f m = with_buffers (changed b f m.buffers) m
