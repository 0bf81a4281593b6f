mod TraceText
