use Rattle.std.proofs.Common.{rules}
use Rattle.delta_actions.specs.Meaning.{action_of}
use Rattle.delta_actions.proofs.reading.action.Goals as goal

pub returns-in_err-protocol-in-protocol : goal.returns-in_err-protocol-in-protocol
unfolding action_of
returns-in_err-protocol-in-protocol c = search rules

pub returns-in_err-metadata-in-metaData : goal.returns-in_err-metadata-in-metaData
unfolding action_of
returns-in_err-metadata-in-metaData c = search rules

pub returns-in_err-add-in-add : goal.returns-in_err-add-in-add
unfolding action_of
returns-in_err-add-in-add c = search rules

pub returns-in_err-remove-in-remove : goal.returns-in_err-remove-in-remove
unfolding action_of
returns-in_err-remove-in-remove c = search rules

pub returns-in_err-cdc-in-cdc : goal.returns-in_err-cdc-in-cdc
unfolding action_of
returns-in_err-cdc-in-cdc c = search rules

pub returns-in_err-domain-in-domainMetadata : goal.returns-in_err-domain-in-domainMetadata
unfolding action_of
returns-in_err-domain-in-domainMetadata c = search rules

pub returns-in_ok-protocol-in-protocol : goal.returns-in_ok-protocol-in-protocol
unfolding action_of
returns-in_ok-protocol-in-protocol c = search rules

pub returns-in_ok-metadata-in-metaData : goal.returns-in_ok-metadata-in-metaData
unfolding action_of
returns-in_ok-metadata-in-metaData c = search rules

pub returns-in_ok-add-in-add : goal.returns-in_ok-add-in-add
unfolding action_of
returns-in_ok-add-in-add c = search rules

pub returns-in_ok-remove-in-remove : goal.returns-in_ok-remove-in-remove
unfolding action_of
returns-in_ok-remove-in-remove c = search rules

pub returns-in_ok-cdc-in-cdc : goal.returns-in_ok-cdc-in-cdc
unfolding action_of
returns-in_ok-cdc-in-cdc c = search rules

pub returns-in_ok-domain-in-domainMetadata : goal.returns-in_ok-domain-in-domainMetadata
unfolding action_of
returns-in_ok-domain-in-domainMetadata c = search rules

pub returns-in_ok-info-in-commitInfo : goal.returns-in_ok-info-in-commitInfo
unfolding action_of
returns-in_ok-info-in-commitInfo c = search rules

pub returns-in_default : goal.returns-in_default
unfolding action_of
returns-in_default c = search rules
