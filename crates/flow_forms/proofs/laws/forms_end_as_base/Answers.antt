use Rattle.flow_forms.proofs.AsBase.{forms_end_as_base}
use Rattle.flow_forms.proofs.laws.forms_end_as_base.Goals as goal

pub returns : goal.returns
returns c = forms_end_as_base
