-- The runs, each computed.
use Rattle.std.proofs.Common.{◌≡◌, ℕ, sym, refl, ap, ◌∙◌, arith}
use Rattle.model.specs.declared.size.Size.{Size}
use Rattle.model.specs.Pixel.{blended_by, with_alpha}
use Rattle.model.specs.Word.{words, int}
use Rattle.rules.specs.Hold.{end_waiting}
use Rattle.rules.specs.Callback.{end_callbacks}
use Rattle.rules.specs.Tree.{held_back_in, descends_in}
use Rattle.rules.specs.Apply.{apply_self, apply_in, commit, desync}
use Rattle.rules.specs.Unlink.{unlink, unlink_children, destroy}
use Rattle.rules.specs.Walk.{walk_in}
use Rattle.laws.specs.Laws.{Balanced}
use Rattle.laws_tests.specs.Tried.{Tried, Kept, one_frame, two_frames, too_early, buffer_5}

-- two numbers that both compute to n
agree : {a b : ℕ} (n : ℕ) → a ≡ n → b ≡ n → a ≡ b
agree n p q = p ∙ sym q

-- two numbers that compute to 1 and 2
differ : {a b : ℕ} → a ≡ 1 → b ≡ 2 → a ≡ b → ⊥
differ p q e = omega arith

opcode_1 : {A : Type 0} → ◌≡◌ {A = ℕ} 1 0 → A
opcode_1 e = elim (let no : ⊥ = omega arith in no) [ ]

one_frame_kept : Kept one_frame
unfolding blended_by with_alpha words int end_waiting end_callbacks held_back_in descends_in apply_self apply_in commit desync unlink unlink_children destroy walk_in
one_frame_kept =
    record {
      one_memory = (refl, (tt, (tt, (tt, (tt, (refl, (tt, (tt, (tt, (tt, tt))))))))));
      one_presenter = (tt, (tt, (tt, (tt, (refl, (tt, (tt, (tt, (tt, (tt, tt))))))))));
      memory = refl;
      glass = λ on x y inside-x inside-y. refl;
      balance = (tt, (tt, (agree 0 refl refl, (agree 1 refl refl, (tt, (tt, (tt, (tt, (tt, (tt, (tt, (tt, (tt, (tt, (tt, (tt, tt))))))))))))))));
      settled = λ success. refl;
      once = (agree 1 refl refl, (tt, (tt, (tt, (tt, (tt, (tt, (tt, (tt, (tt, (tt, (tt, (tt, (tt, (tt, (tt, tt))))))))))))))));
      first = (agree 1 refl refl, (tt, (tt, (tt, (tt, (tt, (tt, (tt, (tt, (tt, (tt, (tt, (tt, (tt, (tt, (tt, tt))))))))))))))));
      values = (λ release. refl, (opcode_1, tt));
    }

two_frames_kept : Kept two_frames
unfolding blended_by with_alpha words int end_waiting end_callbacks held_back_in descends_in apply_self apply_in commit desync unlink unlink_children destroy walk_in
two_frames_kept =
    record {
      one_memory = (refl, (tt, (tt, (refl, (tt, (tt, (tt, (tt, (refl, (tt, (tt, (tt, (tt, tt)))))))))))));
      one_presenter = (tt, (tt, (tt, (tt, (tt, (tt, (tt, (refl, (tt, (tt, (tt, (tt, (tt, tt)))))))))))));
      memory = refl;
      glass = λ on x y inside-x inside-y. refl;
      balance = (tt, (tt, (agree 1 refl refl, (agree 1 refl refl, (tt, (tt, (tt, (tt, (tt, (tt, (tt, (tt, (tt, (tt, (tt, (tt, tt))))))))))))))));
      settled = λ success. refl;
      once = (agree 1 refl refl, (tt, (tt, (tt, (tt, (tt, (tt, (tt, (tt, (tt, (tt, (tt, (tt, (tt, (tt, (tt, tt))))))))))))))));
      first = (agree 0 refl refl, (tt, (tt, (tt, (tt, (tt, (tt, (tt, (tt, (tt, (tt, (tt, (tt, (tt, (tt, (tt, tt))))))))))))))));
      values = (λ release. refl, tt);
    }

too_early_refused : Balanced 1000 too_early buffer_5 → ⊥
unfolding blended_by with_alpha words int end_waiting end_callbacks held_back_in descends_in apply_self apply_in commit desync unlink unlink_children destroy walk_in
too_early_refused balanced = differ refl refl balanced

pub tried : Tried
unfolding blended_by with_alpha words int end_waiting end_callbacks held_back_in descends_in apply_self apply_in commit desync unlink unlink_children destroy walk_in
tried =
    record {
      black_at_first = refl;
      shown = refl;
      stays = refl;
      next_shown = refl;
      left_as_it_is = refl;
      black_again = refl;
      held = refl;
      waiting = refl;
      released = refl;
      at_its_end = refl;
      after_its_end = refl;
      renewed = refl;
      not_applied = refl;
      due_now = refl;
      due_once = refl;
      done_once = refl;
      not_after_end = refl;
      other_memory_painted = λ e. omega arith;
      other_memory_shown = λ e. omega arith;
      other_presenter = λ e. let w = ap (λ (s : Size). s.width) e in omega arith;
      one_frame_kept = one_frame_kept;
      two_frames_kept = two_frames_kept;
      too_early_refused = too_early_refused;
    }
