-- How the code goes on by a rule, which the contracts of readers of records cite, and which words are tokens.
pub mod Leads
pub mod LeadLaws
pub mod Token
