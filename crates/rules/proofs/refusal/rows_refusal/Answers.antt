-- `rows_refusal` meets its contract: the first rule that applies is the lowest. Assumes nothing.
use Rattle.rules.proofs.Lowest.{refused_6, refused_7, refused_8, refused_9, refused_later, later_profile, later_limits, is_profile, is_limits, only_profile, few_procedures_lem, refused_judged}
use mathlib.Core.Path.{◌≡◌, sym, ◌∙◌, subst}
use mathlib.Core.Bool.{false}
use Rattle.lingua.specs.Answers.{file_meaning}
use Rattle.lingua.specs.Format.{File, profile}
use Rattle.lingua.specs.Rules.{count_wrong, constant_wrong}
use Rattle.rules.proofs.refusal.rows_refusal.Goals as goal

pub returns-then-form_wrong : goal.returns-then-form_wrong
returns-then-form_wrong c =
    refused_judged (file_meaning c.args.file) c.args.rows.now (refused_6 (file_meaning c.args.file) c.args.rows.now c.form_wrong.ensures c.if-form_wrong.true)

pub returns-then-count_wrong : goal.returns-then-count_wrong
returns-then-count_wrong c =
    refused_judged (file_meaning c.args.file) c.args.rows.now (refused_7 (file_meaning c.args.file) c.args.rows.now c.form_wrong.ensures (c.count_wrong.ensures c.args.rows.now c.tables.ensures) c.if-form_wrong.false c.if-count_wrong.true)

pub name_wrong-requires : goal.name_wrong-requires
name_wrong-requires c = few_procedures_lem (file_meaning c.args.file) c.args.rows.now (sym (c.count_wrong.ensures c.args.rows.now c.tables.ensures) ∙ c.if-count_wrong.false)

pub returns-then-name_wrong : goal.returns-then-name_wrong
returns-then-name_wrong c =
    refused_judged (file_meaning c.args.file) c.args.rows.now (refused_8 (file_meaning c.args.file) c.args.rows.now c.form_wrong.ensures (c.count_wrong.ensures c.args.rows.now c.tables.ensures) c.name_wrong.ensures c.if-form_wrong.false c.if-count_wrong.false c.if-name_wrong.true)

pub returns-then-constant_wrong : goal.returns-then-constant_wrong
returns-then-constant_wrong c =
    refused_judged (file_meaning c.args.file) c.args.rows.now (refused_9 (file_meaning c.args.file) c.args.rows.now c.form_wrong.ensures (c.count_wrong.ensures c.args.rows.now c.tables.ensures) c.name_wrong.ensures c.constant_wrong.ensures c.if-form_wrong.false c.if-count_wrong.false c.if-name_wrong.false c.if-constant_wrong.true)

pub link_refusal-requires : goal.link_refusal-requires
link_refusal-requires c =
    let e : file_meaning c.args.file ≡ profile = is_profile c.args.file c.in-Profile.is in
    record {
      counts = subst (λ (f : File). count_wrong f c.args.rows.now ≡ false) e (sym (c.count_wrong.ensures c.args.rows.now c.tables.ensures) ∙ c.if-count_wrong.false);
      constants = subst (λ (f : File). constant_wrong f c.args.rows.now ≡ false) e (sym c.constant_wrong.ensures ∙ c.if-constant_wrong.false);
      room = c.requires;
    }

pub returns-in-Profile : goal.returns-in-Profile
returns-in-Profile c =
    record {
      refusal = c.link_refusal.ensures.refusal
          ∙ later_profile (file_meaning c.args.file) c.args.rows.now (is_profile c.args.file c.in-Profile.is)
          ∙ refused_later (file_meaning c.args.file) c.args.rows.now c.form_wrong.ensures (c.count_wrong.ensures c.args.rows.now c.tables.ensures) c.name_wrong.ensures c.constant_wrong.ensures c.if-form_wrong.false c.if-count_wrong.false c.if-name_wrong.false c.if-constant_wrong.false;
      held = λ e z. c.link_refusal.ensures.held z;
    }

pub returns-in-Limits : goal.returns-in-Limits
returns-in-Limits c =
    record {
      refusal = later_limits (file_meaning c.args.file) c.args.rows.now (is_limits c.args.file c.in-Limits.is)
          ∙ refused_later (file_meaning c.args.file) c.args.rows.now c.form_wrong.ensures (c.count_wrong.ensures c.args.rows.now c.tables.ensures) c.name_wrong.ensures c.constant_wrong.ensures c.if-form_wrong.false c.if-count_wrong.false c.if-name_wrong.false c.if-constant_wrong.false;
      held = λ e z. only_profile c.args.file c.in-Limits.is e;
    }
