-- What is promised of a sound plan holds.
-- Assumes nothing.
use native.Mathlib.Omega.{arith}
use Rattle.theory.specs.Sending.{Plan, carried}
use Rattle.theory.specs.Demands.{Sound, Rule, Promises}
use Rattle.theory.specs.FarEnd.{FarEnd}
use Rattle.theory.proofs.Choose.{choose_wins}
use Rattle.theory.proofs.Share.{share}
use Rattle.theory.proofs.Forms.{opens, forms_agree, dues_agree}
use Rattle.theory.proofs.Histories.{missing}
use Rattle.theory.proofs.Window.{window}
use Rattle.theory.proofs.Drain.{cleared}
use Rattle.theory.proofs.Order.{ordered}
use Rattle.theory.proofs.Out.{in_order, all_out}

rule : (p : Plan) → Sound p → Rule p
rule p sound lengths n =
    let w = choose_wins p sound.some_line (carried p lengths n) in
    record { is_line = w.is_below; lowest = λ j l. (w.beats j l).low; on_tie = λ j l e. (w.beats j l).tie (omega arith) }

pub promises : (p : Plan) → Sound p → Promises p
promises p sound = record { rule = rule p sound; share = share p sound; opens = opens p sound; forms_agree = forms_agree p sound; dues_agree = dues_agree p sound }

pub far_end : (p : Plan) → Sound p → FarEnd p
far_end p sound = record {
  in_order = in_order p sound;
  all_out = all_out p sound;
  missing = missing p;
  order = ordered p sound;
  cleared = cleared p sound;
  window = window p sound;
}
